use Rattle.hall_machine.proofs.Leaving as law
use Rattle.hall_machine.proofs.laws.counts_are_few.Goals as goal

pub returns : goal.returns
returns c = law.counts_are_few
