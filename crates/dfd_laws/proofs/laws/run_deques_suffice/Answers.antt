use Rattle.dfd_laws.proofs.RunHeadline as law
use Rattle.dfd_laws.proofs.laws.run_deques_suffice.Goals as goal

pub returns : goal.returns
returns c = λ command p ranges owned. law.deques_suffice command p ranges
