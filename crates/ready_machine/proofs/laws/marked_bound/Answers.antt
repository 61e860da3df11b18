use Rattle.ready_machine.proofs.Along as law
use Rattle.ready_machine.proofs.laws.marked_bound.Goals as goal

pub returns : goal.returns
returns c = law.marked_bound
