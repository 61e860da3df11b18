use Rattle.thread_points.proofs.Telling.{thread_joins}
use Rattle.thread_points.proofs.laws.threads_join.Goals as goal

pub returns : goal.returns
returns c = λ setting assigned child d own s t part front of_child older th kid l. thread_joins setting assigned child d own s t part front of_child older th kid l
