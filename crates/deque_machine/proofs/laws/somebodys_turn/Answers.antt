use Rattle.deque_machine.proofs.Playing as law
use Rattle.deque_machine.proofs.laws.somebodys_turn.Goals as goal

pub returns : goal.returns
returns c = law.somebodys_turn
