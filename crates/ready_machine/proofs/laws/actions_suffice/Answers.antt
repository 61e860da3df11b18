use Rattle.ready_machine.proofs.Playing as law
use Rattle.ready_machine.proofs.laws.actions_suffice.Goals as goal

pub returns : goal.returns
returns c = law.actions_suffice
