use Rattle.flat_statements.proofs.Stepping.{steps_of_the_run}
use Rattle.flat_statements.proofs.laws.thread_steps_are_of_the_run.Goals as goal

pub returns : goal.returns
returns c = steps_of_the_run
