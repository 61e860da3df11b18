use Rattle.ready_machine.proofs.Along as law
use Rattle.ready_machine.proofs.laws.bound_in_ready.Goals as goal

pub returns : goal.returns
returns c = law.bound_in_ready
