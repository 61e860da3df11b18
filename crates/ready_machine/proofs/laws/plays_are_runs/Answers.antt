use Rattle.ready_machine.proofs.Playing as law
use Rattle.ready_machine.proofs.laws.plays_are_runs.Goals as goal

pub returns : goal.returns
returns c s some list = law.plays_are_runs s
