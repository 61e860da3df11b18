use Rattle.thread_points.proofs.Placing.{end_next}
use Rattle.thread_points.proofs.laws.ends_are_of_the_list.Goals as goal

pub returns : goal.returns
returns c = λ setting s at. end_next setting s at
