use Rattle.ready_machine.proofs.Along as law
use Rattle.ready_machine.proofs.laws.ahead_is_marked.Goals as goal

pub returns : goal.returns
returns c = law.ahead_is_marked
