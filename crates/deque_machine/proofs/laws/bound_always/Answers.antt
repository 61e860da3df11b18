use Rattle.deque_machine.proofs.Reached as law
use Rattle.deque_machine.proofs.laws.bound_always.Goals as goal

pub returns : goal.returns
returns c = law.bound_always
