use Rattle.deque_machine.proofs.Reached as law
use Rattle.deque_machine.proofs.laws.events_keep_lawful.Goals as goal

pub returns : goal.returns
returns c = law.events_keep_lawful
