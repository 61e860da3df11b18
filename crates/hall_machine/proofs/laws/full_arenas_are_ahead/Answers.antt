use Rattle.hall_machine.proofs.Stops as law
use Rattle.hall_machine.proofs.laws.full_arenas_are_ahead.Goals as goal

pub returns : goal.returns
returns c = law.full_arenas_are_ahead
