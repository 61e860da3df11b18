use Rattle.deque_machine.proofs.Playing as law
use Rattle.deque_machine.proofs.laws.fronts_go_on.Goals as goal

pub returns : goal.returns
returns c = law.fronts_go_on
