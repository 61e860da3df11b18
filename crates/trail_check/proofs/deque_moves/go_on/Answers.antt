-- The top place is taken and another is put there.
use Rattle.std.proofs.Common.{◌∷◌, length, sym, ap, ◌∙◌, true≢false}
use Rattle.std.specs.Prelude.{is_some}
use Rattle.trail_check.specs.Holds.{deque_with}
use Rattle.trail_check.proofs.Moves.{rank_of, set_there, holds_then}
use Rattle.trail_check.proofs.deque_moves.go_on.Goals as goal

pub returns-in_default-clause-deques : goal.returns-in_default-clause-deques
returns-in_default-clause-deques c = λ owner top under h.
    absurd (true≢false (sym (ap is_some (sym c.in_default.is ∙ c.pop_top.ensures.item (length h.left) (deque_with c.args.id owner (top ∷ under)) (rank_of h)))))

pub returns-clause-deques : goal.returns-clause-deques
returns-clause-deques c = λ owner top under h.
    let taken = set_there h c.pop_top.new.self.deques (deque_with c.args.id owner under)
    (c.pop_top.ensures.deque (length h.left) (deque_with c.args.id owner (top ∷ under)) (rank_of h)) in
    let then_held = holds_then h c.pop_top.new.self.deques owner under taken in
    set_there then_held c.push_top.new.self.deques (deque_with c.args.id owner (c.args.place ∷ under))
    (c.push_top.ensures.deque (length h.left) (deque_with c.args.id owner under) (rank_of then_held))
