use Rattle.ready_machine.proofs.Aside as law
use Rattle.ready_machine.proofs.scheduler_laws.two_are_cut.Goals as goal

pub returns : goal.returns
returns c = law.two_are_cut
