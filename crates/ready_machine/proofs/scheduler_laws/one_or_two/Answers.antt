use Rattle.ready_machine.proofs.Aside as law
use Rattle.ready_machine.proofs.scheduler_laws.one_or_two.Goals as goal

pub returns : goal.returns
returns c = law.one_or_two
