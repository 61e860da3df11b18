use Rattle.deque_machine.proofs.Reached as law
use Rattle.deque_machine.proofs.laws.ended_did_all.Goals as goal

pub returns : goal.returns
returns c = law.ended_did_all
