use Rattle.std.proofs.Common.{Err}
use Rattle.containers.specs.BoundedList.{entries}
use Rattle.trail_check.specs.Judging.{HasFollowed, GivesVerdict}
use Rattle.trail_check.proofs.Verdicts.{err_exit}
use Rattle.trail_check.proofs.following.follow_all.Goals as goal

pub returns-in_err-follow_at : goal.returns-in_err-follow_at
returns-in_err-follow_at c = λ s limits numbers had.
    err_exit (λ _. HasFollowed s limits (entries c.args.events.now) c.follow_at.new.checker) (λ fail. GivesVerdict s limits (entries c.args.events.now) numbers (Err fail))
    c.from_residual.result c.in_err-follow_at.field-0.0 c.from_residual.ensures.1
    (c.in_err-follow_at.ensures s limits numbers (c.events.invariant s limits had))
