use Rattle.thread_points.proofs.Telling.{thread_begins}
use Rattle.thread_points.proofs.laws.threads_begin.Goals as goal

pub returns : goal.returns
returns c = λ setting own s b. thread_begins setting own s b
