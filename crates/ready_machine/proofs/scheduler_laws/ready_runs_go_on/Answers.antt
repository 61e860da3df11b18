use Rattle.ready_machine.proofs.Aside as law
use Rattle.ready_machine.proofs.scheduler_laws.ready_runs_go_on.Goals as goal

pub returns : goal.returns
returns c s some list = law.ready_runs_go_on s
