use Rattle.ready_machine.proofs.Along as law
use Rattle.ready_machine.proofs.laws.marks_never_fall.Goals as goal

pub returns : goal.returns
returns c = law.marks_never_fall
