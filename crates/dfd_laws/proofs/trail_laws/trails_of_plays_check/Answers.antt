use Rattle.dfd_laws.proofs.Accepted as law
use Rattle.dfd_laws.proofs.trail_laws.trails_of_plays_check.Goals as goal

pub returns : goal.returns
returns c = law.trails_of_plays_check
