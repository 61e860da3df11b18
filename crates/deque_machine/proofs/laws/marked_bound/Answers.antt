use Rattle.deque_machine.proofs.Reached as law
use Rattle.deque_machine.proofs.laws.marked_bound.Goals as goal

pub returns : goal.returns
returns c = law.marked_bound
