use Rattle.dfd_laws.proofs.AsyncOfOne as law
use Rattle.dfd_laws.proofs.laws.async_of_one_stays_low.Goals as goal

pub returns : goal.returns
returns c = λ command p ranges owned. law.async_of_one_stays_low command p ranges
