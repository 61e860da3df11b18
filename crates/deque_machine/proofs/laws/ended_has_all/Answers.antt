use Rattle.deque_machine.proofs.Keeping as law
use Rattle.deque_machine.proofs.laws.ended_has_all.Goals as goal

pub returns : goal.returns
returns c = law.ended_has_all
