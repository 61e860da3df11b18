use Rattle.ready_machine.proofs.Coming as law
use Rattle.ready_machine.proofs.laws.forks_are_cut.Goals as goal

pub returns : goal.returns
returns c s some list = law.forks_are_cut s
