-- The thread goes on, and its owner leaves the deque.
use Rattle.std.proofs.Common.{refl, subst, w64, rules}
use Rattle.std.proofs.lemmas.Int.{to_z-of_z}
use Rattle.trail_check.specs.Tallies.{HasActed}
use Rattle.std.specs.Prelude.{Some}
use Rattle.trail_check.specs.declared.checker.Checker.{Checker}
use Rattle.trail_check.proofs.Acting.{dummy_came}
use Rattle.trail_check.proofs.checker.Checker.run_dummy.Goals as goal

pub returns : goal.returns
returns c = λ s limits run m stands is kind.
    let now : Checker = c.args.self.now in
    dummy_came s limits run m now stands c.args.step is kind (record now { deques = c.go_on_unowned.new.deques; seats = c.write.new.list; tally = c.act.new.self })
    (record { actions = refl; partners = refl; quota = refl; workers = refl; arena = refl; steps = refl; most = refl; list_most = c.go_on_unowned.ensures.most })
    (subst (λ w. HasActed c.args.step.place w now.tally c.act.new.self) (to_z-of_z w64 c.args.step.change (search rules)) c.in_ok-act.ensures.acted) (c.go_on_unowned.ensures.deques (Some c.args.step.worker) c.args.step.place is.hand.under is.hand.holds) c.write.ensures refl
