use Rattle.trail_check.proofs.Recorded as law
use Rattle.trail_check.proofs.good_laws.plays_are_followed.Goals as goal

pub returns : goal.returns
returns c = law.plays_are_followed
