use Rattle.ready_machine.proofs.Playing as law
use Rattle.ready_machine.proofs.laws.endings_have_causes.Goals as goal

pub returns : goal.returns
returns c s some list = law.endings_have_causes s
