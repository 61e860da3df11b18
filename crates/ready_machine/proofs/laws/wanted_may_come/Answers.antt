use Rattle.ready_machine.proofs.Coming as law
use Rattle.ready_machine.proofs.laws.wanted_may_come.Goals as goal

pub returns : goal.returns
returns c s some list = law.wanted_may_come s list
