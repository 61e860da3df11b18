use Rattle.deque_machine.proofs.Sizes as law
use Rattle.deque_machine.proofs.laws.arena_never_fills.Goals as goal

pub returns : goal.returns
returns c = law.arena_never_fills
