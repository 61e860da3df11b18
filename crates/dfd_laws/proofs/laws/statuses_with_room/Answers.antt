use Rattle.dfd_laws.proofs.Headline as law
use Rattle.dfd_laws.proofs.laws.statuses_with_room.Goals as goal

pub returns : goal.returns
returns c = λ command p ranges owned. law.statuses_with_room command p ranges
