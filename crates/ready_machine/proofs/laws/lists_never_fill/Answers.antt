use Rattle.ready_machine.proofs.Playing as law
use Rattle.ready_machine.proofs.laws.lists_never_fill.Goals as goal

pub returns : goal.returns
returns c = law.lists_never_fill
