use Rattle.ready_machine.proofs.Coming as law
use Rattle.ready_machine.proofs.laws.all_but_forks_are_shared.Goals as goal

pub returns : goal.returns
returns c s some list = law.all_but_forks_are_shared s
