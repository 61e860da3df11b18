use Rattle.trail_check.proofs.NextPlaces as law
use Rattle.trail_check.proofs.place_laws.parent_follows.Goals as goal

pub returns : goal.returns
returns c = law.parent_follows
