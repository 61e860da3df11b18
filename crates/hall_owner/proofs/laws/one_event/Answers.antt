use Rattle.hall_owner.proofs.OneEvent as law
use Rattle.hall_owner.proofs.laws.one_event.Goals as goal

pub returns : goal.returns
returns c = law.one_event
