use Rattle.thread_points.proofs.Telling.{outcomes}
use Rattle.thread_points.proofs.laws.outcomes_are_of_their_children.Goals as goal

pub returns : goal.returns
returns c = λ setting own s parts th. outcomes setting own s parts th
