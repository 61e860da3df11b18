use Rattle.ready_machine.proofs.Along as law
use Rattle.ready_machine.proofs.laws.events_keep_ready.Goals as goal

pub returns : goal.returns
returns c = law.events_keep_ready
