use Rattle.ready_machine.proofs.Going as law
use Rattle.ready_machine.proofs.laws.fronts_are_runs.Goals as goal

pub returns : goal.returns
returns c s some list = law.fronts_are_runs s
