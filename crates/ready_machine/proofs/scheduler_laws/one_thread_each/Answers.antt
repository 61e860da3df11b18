use Rattle.ready_machine.proofs.Aside as law
use Rattle.ready_machine.proofs.scheduler_laws.one_thread_each.Goals as goal

pub returns : goal.returns
returns c = law.one_thread_each
