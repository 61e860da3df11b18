use Rattle.dfd_laws.proofs.RunHeadline as law
use Rattle.dfd_laws.proofs.laws.run_moments_are_bounded.Goals as goal

pub returns : goal.returns
returns c = λ command p ranges owned. law.moments_are_bounded command p ranges
