use Rattle.deque_machine.proofs.Reached as law
use Rattle.deque_machine.proofs.laws.ahead_is_marked.Goals as goal

pub returns : goal.returns
returns c = law.ahead_is_marked
