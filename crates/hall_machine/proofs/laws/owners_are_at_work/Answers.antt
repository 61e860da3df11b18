use Rattle.hall_machine.proofs.Closing as law
use Rattle.hall_machine.proofs.laws.owners_are_at_work.Goals as goal

pub returns : goal.returns
returns c = law.owners_are_at_work
