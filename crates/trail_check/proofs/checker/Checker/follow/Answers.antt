-- The event came, or not, and the limits hold after it, or not.
use Rattle.std.proofs.Common.{subst}
use Rattle.trail_check.specs.Steps.{Came}
use Rattle.trail_check.proofs.Leading.{by_limits}
use Rattle.trail_check.proofs.checker.Checker.follow.Goals as goal

pub returns-then-not-branch-clause-followed : goal.returns-then-not-branch-clause-followed
returns-then-not-branch-clause-followed c = λ s limits run m stands.
    subst (λ b. Came s limits run m c.args.told b c.take.new.self) c.if-not-branch.true (c.in_ok-take.ensures.came s limits run m stands)

pub returns-clause-followed : goal.returns-clause-followed
returns-clause-followed c = λ s limits run m stands.
    by_limits s limits run m c.args.self.now c.take.new.self stands c.args.told
    (subst (λ b. Came s limits run m c.args.told b c.take.new.self) c.if-not-branch.false (c.in_ok-take.ensures.came s limits run m stands))
    c.is_within.result c.is_within.ensures
