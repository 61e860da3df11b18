use Rattle.deque_machine.proofs.Reached as law
use Rattle.deque_machine.proofs.laws.marks_never_fall.Goals as goal

pub returns : goal.returns
returns c = law.marks_never_fall
