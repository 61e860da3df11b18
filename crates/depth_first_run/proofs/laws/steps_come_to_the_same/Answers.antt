use Rattle.depth_first_run.proofs.Stepping.{advance_comes}
use Rattle.depth_first_run.proofs.laws.steps_come_to_the_same.Goals as goal

pub returns : goal.returns
returns c = λ setting m. advance_comes setting m
