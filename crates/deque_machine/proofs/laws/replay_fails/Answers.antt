use Rattle.deque_machine.proofs.Replay as law
use Rattle.deque_machine.proofs.laws.replay_fails.Goals as goal

pub returns : goal.returns
returns c = law.replay_fails
