use Rattle.dfd_laws.proofs.RunHeadline as law
use Rattle.dfd_laws.proofs.laws.run_statuses_with_room.Goals as goal

pub returns : goal.returns
returns c = λ command p ranges owned. law.statuses_with_room command p ranges
