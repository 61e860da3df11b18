use Rattle.deque_machine.proofs.Sizes as law
use Rattle.deque_machine.proofs.laws.deques_at_most.Goals as goal

pub returns : goal.returns
returns c = law.deques_at_most
