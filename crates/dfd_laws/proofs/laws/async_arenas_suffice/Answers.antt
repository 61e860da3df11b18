use Rattle.dfd_laws.proofs.AsyncHeadline as law
use Rattle.dfd_laws.proofs.laws.async_arenas_suffice.Goals as goal

pub returns : goal.returns
returns c = λ command p ranges owned. law.async_arenas_suffice command p ranges
