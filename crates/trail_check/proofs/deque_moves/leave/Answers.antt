-- The top place is taken. A deque that has no other is empty then.
use Rattle.std.proofs.Common.{[], ◌∷◌, length, sym, ap, subst, ◌∙◌, refl, true≢false}
use Rattle.std.specs.Prelude.{is_some}
use Rattle.deque_list.specs.Ids.{IsLive}
use Rattle.trail_check.specs.Holds.{deque_with}
use Rattle.trail_check.proofs.Moves.{rank_of, set_there, none_there, holds_then, empty_there}
use Rattle.trail_check.proofs.deque_moves.leave.Goals as goal

pub returns-then-is_some-clause-alone : goal.returns-then-is_some-clause-alone
returns-then-is_some-clause-alone c = λ owner top h.
    let taken = set_there h c.pop_top.new.self.deques (deque_with c.args.id owner [])
    (c.pop_top.ensures.deque (length h.left) (deque_with c.args.id owner (top ∷ [])) (rank_of h)) in
    let none = c.top.ensures owner [] (holds_then h c.pop_top.new.self.deques owner [] taken) in
    absurd (true≢false (sym c.if-is_some.true ∙ c.is_some.ensures ∙ ap is_some none))

pub returns-then-is_some-clause-more : goal.returns-then-is_some-clause-more
returns-then-is_some-clause-more c = λ owner top next under h. (
  refl,
  set_there h c.pop_top.new.self.deques (deque_with c.args.id owner (next ∷ under))
      (c.pop_top.ensures.deque (length h.left) (deque_with c.args.id owner (top ∷ next ∷ under)) (rank_of h)),
)

pub remove-requires : goal.remove-requires
remove-requires c =
    empty_there c.pop_top.new.self.deques c.args.id c.top.result (subst (λ t. IsLive t c.args.id) (sym c.pop_top.ensures.ids) c.requires)
    (sym c.is_some.ensures ∙ c.if-is_some.false) c.top.ensures

pub returns-clause-alone : goal.returns-clause-alone
returns-clause-alone c = λ owner top h.
    let taken = set_there h c.pop_top.new.self.deques (deque_with c.args.id owner [])
    (c.pop_top.ensures.deque (length h.left) (deque_with c.args.id owner (top ∷ [])) (rank_of h)) in
    let then_held = holds_then h c.pop_top.new.self.deques owner [] taken in
    (refl, none_there then_held c.remove.new.self.deques (c.remove.ensures.deque (length h.left) (deque_with c.args.id owner []) (rank_of then_held)))

pub returns-clause-more : goal.returns-clause-more
returns-clause-more c = λ owner top next under h.
    let taken = set_there h c.pop_top.new.self.deques (deque_with c.args.id owner (next ∷ under))
    (c.pop_top.ensures.deque (length h.left) (deque_with c.args.id owner (top ∷ next ∷ under)) (rank_of h)) in
    let some = c.top.ensures owner (next ∷ under) (holds_then h c.pop_top.new.self.deques owner (next ∷ under) taken) in
    absurd (true≢false (sym (ap is_some some) ∙ sym c.is_some.ensures ∙ c.if-is_some.false))
