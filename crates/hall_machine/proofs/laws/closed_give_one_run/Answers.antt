use Rattle.hall_machine.proofs.Closed as law
use Rattle.hall_machine.proofs.laws.closed_give_one_run.Goals as goal

pub returns : goal.returns
returns c = law.closed_give_one_run
