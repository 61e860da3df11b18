use Rattle.deque_machine.proofs.Keeping as law
use Rattle.deque_machine.proofs.laws.running_keeps.Goals as goal

pub returns : goal.returns
returns c = law.running_keeps
