use Rattle.dfd_laws.proofs.TrailLaws as law
use Rattle.dfd_laws.proofs.laws.verified_trails_are_bounded.Goals as goal

pub returns : goal.returns
returns c = law.verified_trails_are_bounded
