-- At an End the parent goes on, or the deque leaves the list.
use Rattle.std.proofs.Common.{inl, inr, refl, sym, ◌∙◌, true≢false, subst, w64, rules}
use Rattle.std.proofs.lemmas.Int.{to_z-of_z}
use Rattle.trail_check.specs.Tallies.{HasActed}
use Rattle.trail_check.specs.declared.checker.Checker.{Checker}
use Rattle.trail_check.proofs.Moves.{left_by_top}
use Rattle.trail_check.proofs.Ending.{above_came, leaves_came, wakes_came}
use Rattle.trail_check.proofs.checker.Checker.end.Goals as goal

pub returns-in-Some : goal.returns-in-Some
returns-in-Some c = λ s limits run m stands is kind.
    let now : Checker = c.args.self.now in
    wakes_came s limits run m now stands c.args.step is kind c.in-Some.join c.in-Some.ensures.0 c.in-Some.ensures.1
    (record now { deques = c.go_on.new.deques; seats = c.write-in-Some.new.list; waits = c.write.new.list; tally = c.act.new.self })
    (record { actions = refl; partners = refl; quota = refl; workers = refl; arena = refl; steps = refl; most = refl; list_most = c.go_on.ensures.most })
    (subst (λ w. HasActed c.args.step.place w now.tally c.act.new.self) (to_z-of_z w64 c.args.step.change (search rules)) c.in_ok-act.ensures.acted) (c.go_on.ensures.deques _ c.args.step.place is.hand.under is.hand.holds) c.write-in-Some.ensures c.write.ensures

pub returns-then-leave : goal.returns-then-leave
returns-then-leave c = λ s limits run m stands is kind.
    let now : Checker = c.args.self.now in
    elim (left_by_top is.hand.under is.hand.holds c.leave.result c.leave.new.deques.deques c.leave.ensures.alone c.leave.ensures.more) [
      | inr other ↦ absurd (true≢false (sym c.if-leave.true ∙ other.3))
      | inl alone ↦ leaves_came s limits run m now stands c.args.step is kind alone.0 c.in_default.ensures
          (record now { deques = c.leave.new.deques; seats = c.write-then-leave.new.list; tally = c.act.new.self })
          (record { actions = refl; partners = refl; quota = refl; workers = refl; arena = refl; steps = refl; most = refl; list_most = c.leave.ensures.most })
          (subst (λ w. HasActed c.args.step.place w now.tally c.act.new.self) (to_z-of_z w64 c.args.step.change (search rules)) c.in_ok-act.ensures.acted) alone.2 c.write-then-leave.ensures refl
    ]

pub returns : goal.returns
returns c = λ s limits run m stands is kind.
    let now : Checker = c.args.self.now in
    elim (left_by_top is.hand.under is.hand.holds c.leave.result c.leave.new.deques.deques c.leave.ensures.alone c.leave.ensures.more) [
      | inl alone ↦ absurd (true≢false (sym alone.1 ∙ c.if-leave.false))
      | inr above ↦ above_came s limits run m now stands c.args.step is kind above.0 above.1 above.2
          (record now { deques = c.leave.new.deques; seats = c.write-2.new.list; tally = c.act.new.self })
          (record { actions = refl; partners = refl; quota = refl; workers = refl; arena = refl; steps = refl; most = refl; list_most = c.leave.ensures.most })
          (subst (λ w. HasActed c.args.step.place w now.tally c.act.new.self) (to_z-of_z w64 c.args.step.change (search rules)) c.in_ok-act.ensures.acted) above.4 c.write-2.ensures refl
    ]
