use Rattle.ready_machine.proofs.Playing as law
use Rattle.ready_machine.proofs.laws.plays_finish.Goals as goal

pub returns : goal.returns
returns c = law.plays_finish
