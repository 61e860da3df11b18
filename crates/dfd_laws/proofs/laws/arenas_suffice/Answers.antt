use Rattle.dfd_laws.proofs.Headline as law
use Rattle.dfd_laws.proofs.laws.arenas_suffice.Goals as goal

pub returns : goal.returns
returns c = λ command p ranges owned. law.arenas_suffice command p ranges
