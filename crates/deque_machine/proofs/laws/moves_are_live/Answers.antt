use Rattle.deque_machine.proofs.Reached as law
use Rattle.deque_machine.proofs.laws.moves_are_live.Goals as goal

pub returns : goal.returns
returns c = law.moves_are_live
