use Rattle.ready_machine.proofs.Along as law
use Rattle.ready_machine.proofs.laws.moves_are_live.Goals as goal

pub returns : goal.returns
returns c = law.moves_are_live
