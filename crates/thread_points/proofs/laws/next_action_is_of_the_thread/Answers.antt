use Rattle.thread_points.proofs.Placing.{next_at}
use Rattle.thread_points.proofs.laws.next_action_is_of_the_thread.Goals as goal

pub returns : goal.returns
returns c = λ setting own s at. next_at setting own s at
