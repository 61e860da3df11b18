use Rattle.trail_check.proofs.NextPlaces as law
use Rattle.trail_check.proofs.place_laws.next_follows.Goals as goal

pub returns : goal.returns
returns c = law.next_follows
