-- The thread goes on in its deque.
use Rattle.std.proofs.Common.{refl, subst, w64, rules}
use Rattle.std.proofs.lemmas.Int.{to_z-of_z}
use Rattle.trail_check.specs.Tallies.{HasActed}
use Rattle.std.specs.Prelude.{Some}
use Rattle.trail_check.specs.declared.checker.Checker.{Checker}
use Rattle.trail_check.proofs.Acting.{alone_came}
use Rattle.trail_check.proofs.checker.Checker.do_alone.Goals as goal

pub returns : goal.returns
returns c = λ s limits run m stands is alone.
    let now : Checker = c.args.self.now in
    alone_came s limits run m now stands c.args.step is alone (record now { deques = c.go_on.new.deques; seats = c.write.new.list; tally = c.act.new.self })
    (record { actions = refl; partners = refl; quota = refl; workers = refl; arena = refl; steps = refl; most = refl; list_most = c.go_on.ensures.most })
    (subst (λ w. HasActed c.args.step.place w now.tally c.act.new.self) (to_z-of_z w64 c.args.step.change (search rules)) c.in_ok-act.ensures.acted) (c.go_on.ensures.deques (Some c.args.step.worker) c.args.step.place is.hand.under is.hand.holds) c.write.ensures refl
