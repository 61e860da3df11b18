use Rattle.thread_points.proofs.Placing.{acts_next}
use Rattle.thread_points.proofs.laws.steps_give_the_action_of_the_list.Goals as goal

pub returns : goal.returns
returns c = λ setting f own s at new a grown one. acts_next setting f own s at new a grown one
