use Rattle.ready_machine.proofs.Aside as law
use Rattle.ready_machine.proofs.scheduler_laws.root_stands_ready.Goals as goal

pub returns : goal.returns
returns c = law.root_stands_ready
