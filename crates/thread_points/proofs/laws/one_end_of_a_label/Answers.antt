use Rattle.thread_points.proofs.Single.{one_end}
use Rattle.thread_points.proofs.laws.one_end_of_a_label.Goals as goal

pub returns : goal.returns
returns c = λ setting s t p q l. one_end setting s t p q l
