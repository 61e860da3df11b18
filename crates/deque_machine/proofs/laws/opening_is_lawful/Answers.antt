use Rattle.deque_machine.proofs.Kept as law
use Rattle.deque_machine.proofs.laws.opening_is_lawful.Goals as goal

pub returns : goal.returns
returns c s some list = law.opening_is_lawful s list
