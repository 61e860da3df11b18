use Rattle.ready_machine.proofs.Along as law
use Rattle.ready_machine.proofs.laws.arena_refuses.Goals as goal

pub returns : goal.returns
returns c = law.arena_refuses
