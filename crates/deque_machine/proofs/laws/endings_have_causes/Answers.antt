use Rattle.deque_machine.proofs.OnePlay as law
use Rattle.deque_machine.proofs.laws.endings_have_causes.Goals as goal

pub returns : goal.returns
returns c = law.endings_have_causes
