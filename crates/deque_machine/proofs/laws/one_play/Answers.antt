use Rattle.deque_machine.proofs.OnePlay as law
use Rattle.deque_machine.proofs.laws.one_play.Goals as goal

pub returns : goal.returns
returns c = law.one_play
