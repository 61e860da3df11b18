use Rattle.dfd_laws.proofs.AsyncHeadline as law
use Rattle.dfd_laws.proofs.laws.async_lists_never_fill.Goals as goal

pub returns : goal.returns
returns c = λ command p ranges owned. law.async_lists_never_fill command p ranges
