use Rattle.thread_points.proofs.Finishing.{finishes}
use Rattle.thread_points.proofs.laws.finishing_gives_the_end.Goals as goal

pub returns : goal.returns
returns c = λ setting own s at. finishes setting own s at
