use Rattle.hall_machine.proofs.Closed as law
use Rattle.hall_machine.proofs.laws.halls_are_bounded.Goals as goal

pub returns : goal.returns
returns c = law.halls_are_bounded
