use Rattle.depth_first_run.proofs.OneAction.{next_action_comes}
use Rattle.depth_first_run.proofs.laws.steps_give_the_next_action.Goals as goal

pub returns : goal.returns
returns c = λ setting m. next_action_comes setting m
