use Rattle.ready_machine.proofs.Few as law
use Rattle.ready_machine.proofs.scheduler_laws.entries_are_few.Goals as goal

pub returns : goal.returns
returns c = law.entries_are_few
