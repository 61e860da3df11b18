use Rattle.dfd_laws.proofs.AsyncOfOne as law
use Rattle.dfd_laws.proofs.laws.async_of_one_lasts_at_the_peak.Goals as goal

pub returns : goal.returns
returns c = λ command p ranges owned. law.async_of_one_lasts_at_the_peak command p ranges
