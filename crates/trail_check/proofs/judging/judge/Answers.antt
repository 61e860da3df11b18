use Rattle.containers.specs.BoundedList.{entries}
use Rattle.trail_meaning.specs.Shown.{shown_by_trail}
use Rattle.trail_check.specs.Checking.{trail_terms, trail_machine}
use Rattle.trail_check.proofs.Verdicts.{fail_exit}
use Rattle.trail_check.proofs.judging.judge.Goals as goal

pub returns-in_err-follow_all : goal.returns-in_err-follow_all
returns-in_err-follow_all c = λ p list.
    fail_exit (trail_machine p (shown_by_trail c.args.trail.now)) (trail_terms (shown_by_trail c.args.trail.now)).limits
    (entries c.args.trail.now.events) c.args.trail.now.numbers c.from_residual-in_err-follow_all.result c.in_err-follow_all.field-0.0
    c.from_residual-in_err-follow_all.ensures.1
    (c.in_err-follow_all.ensures _ _ c.args.trail.now.numbers (c.in_ok-checker.ensures p list))

pub returns : goal.returns
returns c = λ p list. c.conclude.ensures _ _ (c.in_ok-follow_all.ensures _ _ c.args.trail.now.numbers (c.in_ok-checker.ensures p list))
