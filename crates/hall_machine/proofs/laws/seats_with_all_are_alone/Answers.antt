use Rattle.hall_machine.proofs.Closed as law
use Rattle.hall_machine.proofs.laws.seats_with_all_are_alone.Goals as goal

pub returns : goal.returns
returns c = law.seats_with_all_are_alone
