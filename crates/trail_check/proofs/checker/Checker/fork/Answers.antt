-- A Fork has a partner, after which the parent goes on.
use Rattle.std.proofs.Common.{◌≡◌, ◌+◌, ◌∷◌, [], refl, sym, ap, subst, ◌∙◌, arith, true≢false, w64, rules}
use Rattle.std.proofs.lemmas.Int.{to_z-of_z}
use Rattle.trail_check.specs.Tallies.{HasActed}
use Rattle.std.specs.Prelude.{Some, is_some}
use Rattle.trail_check.specs.declared.checker.Checker.{Checker}
use Rattle.trail_check.specs.Holds.{deque_with, with_these}
use Rattle.trail_check.proofs.Acting.{fork_came, fork_partner, parent_inside}
use Rattle.trail_check.proofs.Stepping.{as_long}
use Rattle.trail_check.proofs.checker.Checker.fork.Goals as goal

pub returns-in_default : goal.returns-in_default
returns-in_default c = λ s limits run m stands is kind.
    let partner = fork_partner s limits run m c.args.self.now stands c.args.step is kind in
    absurd (true≢false (sym (ap is_some (sym c.in_default.is ∙ c.partner.ensures ∙ partner.1))))

pub returns-in_default-checked_add : goal.returns-in_default-checked_add
returns-in_default-checked_add c = λ s limits run m stands is kind.
    let inside = parent_inside s limits run m c.args.self.now stands c.args.step is kind c.in-Some.end (sym c.partner.ensures ∙ c.in-Some.is) in
    let long = as_long s limits run m c.args.self.now stands in
    let short = c.args.self.now.actions.short in let size = c.args.self.now.actions.items.ok.0 in
    absurd (c.in_default-checked_add.ensures (omega (arith, inside, long, short, size)))

pub returns : goal.returns
returns c = λ s limits run m stands is kind.
    let now : Checker = c.args.self.now in
    let parent : c.in-Some-checked_add.parent ≡ c.in-Some.end + 1 = c.in-Some-checked_add.ensures.1 in
    fork_came s limits run m now stands c.args.step is kind (record now { deques = c.put_child.new.deques; seats = c.write.new.list; tally = c.act.new.self })
    (record { actions = refl; partners = refl; quota = refl; workers = refl; arena = refl; steps = refl; most = refl; list_most = c.in_ok-put_child.ensures.most })
    (subst (λ w. HasActed c.args.step.place w now.tally c.act.new.self) (to_z-of_z w64 c.args.step.change (search rules)) c.in_ok-act.ensures.acted) c.in-Some.end (sym c.partner.ensures ∙ c.in-Some.is)
    (c.in_ok-put_child.ensures.deques (Some c.args.step.worker) c.args.step.place is.hand.under is.hand.holds
    ∙ ap (λ n. with_these is.hand.holds (deque_with c.args.step.seat.deque (Some c.args.step.worker) ((c.args.step.place + 1) ∷ n ∷ is.hand.under) ∷ [])) parent)
    c.write.ensures refl
