use Rattle.deque_machine.proofs.Keeping as law
use Rattle.deque_machine.proofs.laws.one_prefix.Goals as goal

pub returns : goal.returns
returns c = law.one_prefix
