use Rattle.hall_machine.proofs.Going as law
use Rattle.hall_machine.proofs.laws.steps_are_a_run.Goals as goal

pub returns : goal.returns
returns c = law.steps_are_a_run
