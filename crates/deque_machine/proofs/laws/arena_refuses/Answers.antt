use Rattle.deque_machine.proofs.Reached as law
use Rattle.deque_machine.proofs.laws.arena_refuses.Goals as goal

pub returns : goal.returns
returns c = law.arena_refuses
