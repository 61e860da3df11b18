use Rattle.deque_machine.proofs.Accounting as law
use Rattle.deque_machine.proofs.laws.arena_law.Goals as goal

pub returns : goal.returns
returns c = law.arena_law
