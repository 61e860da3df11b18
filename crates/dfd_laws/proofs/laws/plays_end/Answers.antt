use Rattle.dfd_laws.proofs.Headline as law
use Rattle.dfd_laws.proofs.laws.plays_end.Goals as goal

pub returns : goal.returns
returns c = λ command p ranges owned. law.plays_end_soon command p ranges
