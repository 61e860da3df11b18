use Rattle.dfd_laws.proofs.Headline as law
use Rattle.dfd_laws.proofs.laws.deques_suffice.Goals as goal

pub returns : goal.returns
returns c = λ command p ranges owned. law.deques_suffice command p ranges
