use Rattle.ready_machine.proofs.Along as law
use Rattle.ready_machine.proofs.laws.reached_is_ready.Goals as goal

pub returns : goal.returns
returns c = law.reached_is_ready
