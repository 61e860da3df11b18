use Rattle.ready_machine.proofs.Sharing as law
use Rattle.ready_machine.proofs.laws.opening_is_ready.Goals as goal

pub returns : goal.returns
returns c s some list = law.opening_is_ready s list
