use Rattle.ready_machine.proofs.Going as law
use Rattle.ready_machine.proofs.laws.fronts_go_on.Goals as goal

pub returns : goal.returns
returns c s some list = law.fronts_go_on s
