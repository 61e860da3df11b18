use Rattle.deque_machine.proofs.Replay as law
use Rattle.deque_machine.proofs.laws.step_is_the_machine.Goals as goal

pub returns : goal.returns
returns c = law.step_is_the_machine
