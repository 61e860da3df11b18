use Rattle.thread_points.proofs.Alone.{alone_or_forks}
use Rattle.thread_points.proofs.laws.steps_are_alone_or_fork.Goals as goal

pub returns : goal.returns
returns c = λ setting f s own. alone_or_forks setting f s own
