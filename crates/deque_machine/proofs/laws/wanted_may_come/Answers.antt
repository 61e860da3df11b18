use Rattle.deque_machine.proofs.Playing as law
use Rattle.deque_machine.proofs.laws.wanted_may_come.Goals as goal

pub returns : goal.returns
returns c = law.wanted_may_come
