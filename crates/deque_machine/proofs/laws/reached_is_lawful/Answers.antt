use Rattle.deque_machine.proofs.Reached as law
use Rattle.deque_machine.proofs.laws.reached_is_lawful.Goals as goal

pub returns : goal.returns
returns c = law.reached_is_lawful
