-- By the kind of the event.
use Rattle.std.proofs.Common.{sym, subst}
use Rattle.std.specs.Prelude.{IfOk}
use Rattle.trail_check.specs.Steps.{told_of, Came}
use Rattle.trail_check.proofs.checker.Checker.take.Goals as goal

pub returns-in-Steal-clause-came : goal.returns-in-Steal-clause-came
returns-in-Steal-clause-came c = λ s limits run m stands.
    subst (λ k. IfOk c.steal.result (λ came. Came s limits run m (told_of c.args.told.worker k) came c.steal.new.self)) (sym c.in-Steal.is) (c.steal.ensures.came s limits run m stands)

pub returns-in-Act-clause-came : goal.returns-in-Act-clause-came
returns-in-Act-clause-came c = λ s limits run m stands.
    subst (λ k. IfOk c.act.result (λ came. Came s limits run m (told_of c.args.told.worker k) came c.act.new.self)) (sym c.in-Act.is) (c.act.ensures s limits run m stands)

pub returns-in-Suspend-clause-came : goal.returns-in-Suspend-clause-came
returns-in-Suspend-clause-came c = λ s limits run m stands.
    subst (λ k. Came s limits run m (told_of c.args.told.worker k) c.suspend.result c.suspend.new.self) (sym c.in-Suspend.is) (c.suspend.ensures s limits run m stands)

pub returns-in-GiveUp-clause-came : goal.returns-in-GiveUp-clause-came
returns-in-GiveUp-clause-came c = λ s limits run m stands.
    subst (λ k. Came s limits run m (told_of c.args.told.worker k) c.give_up.result c.give_up.new.self) (sym c.in-GiveUp.is) (c.give_up.ensures s limits run m stands)
