use Rattle.deque_machine.proofs.Keeping as law
use Rattle.deque_machine.proofs.laws.beginning_keeps.Goals as goal

pub returns : goal.returns
returns c = law.beginning_keeps
