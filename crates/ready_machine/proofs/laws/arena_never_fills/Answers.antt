use Rattle.ready_machine.proofs.Along as law
use Rattle.ready_machine.proofs.laws.arena_never_fills.Goals as goal

pub returns : goal.returns
returns c = law.arena_never_fills
