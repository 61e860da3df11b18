use Rattle.thread_points.proofs.Telling.{thread_forks}
use Rattle.thread_points.proofs.laws.threads_fork.Goals as goal

pub returns : goal.returns
returns c = λ setting f own s part older th plain k. thread_forks setting f own s part older th plain k
