use Rattle.hall_machine.proofs.Closed as law
use Rattle.hall_machine.proofs.laws.first_hall_stands.Goals as goal

pub returns : goal.returns
returns c = law.first_hall_stands
