use Rattle.hall_machine.proofs.Closed as law
use Rattle.hall_machine.proofs.laws.states_meet_the_law.Goals as goal

pub returns : goal.returns
returns c = law.states_meet_the_law
