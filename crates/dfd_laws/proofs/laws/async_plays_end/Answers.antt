use Rattle.dfd_laws.proofs.AsyncHeadline as law
use Rattle.dfd_laws.proofs.laws.async_plays_end.Goals as goal

pub returns : goal.returns
returns c = λ command p ranges owned. law.async_plays_end command p ranges
