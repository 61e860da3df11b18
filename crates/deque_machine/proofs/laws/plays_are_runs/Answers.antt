use Rattle.deque_machine.proofs.Playing as law
use Rattle.deque_machine.proofs.laws.plays_are_runs.Goals as goal

pub returns : goal.returns
returns c = law.plays_are_runs
