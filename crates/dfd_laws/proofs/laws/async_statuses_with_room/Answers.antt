use Rattle.dfd_laws.proofs.AsyncHeadline as law
use Rattle.dfd_laws.proofs.laws.async_statuses_with_room.Goals as goal

pub returns : goal.returns
returns c = λ command p ranges owned. law.async_statuses_with_room command p ranges
