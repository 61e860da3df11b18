use Rattle.thread_points.proofs.Telling.{thread_steps}
use Rattle.thread_points.proofs.laws.threads_step.Goals as goal

pub returns : goal.returns
returns c = λ setting f own s part older new th plain put grown. thread_steps setting f own s part older new th plain put grown
