use Rattle.thread_points.proofs.Telling.{join_next}
use Rattle.thread_points.proofs.laws.joins_are_of_the_list.Goals as goal

pub returns : goal.returns
returns c = λ setting assigned child d own s at. join_next setting assigned child d own s at
