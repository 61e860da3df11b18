use Rattle.ready_machine.proofs.Along as law
use Rattle.ready_machine.proofs.laws.ended_did_all.Goals as goal

pub returns : goal.returns
returns c = law.ended_did_all
