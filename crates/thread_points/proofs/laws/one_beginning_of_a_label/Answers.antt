use Rattle.thread_points.proofs.Single.{one_beginning}
use Rattle.thread_points.proofs.laws.one_beginning_of_a_label.Goals as goal

pub returns : goal.returns
returns c = λ setting own other s t p q l. one_beginning setting own other s t p q l
