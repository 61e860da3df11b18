use Rattle.trail_check.proofs.Outcomes as law
use Rattle.trail_check.proofs.check_laws.accepted_trails_are_bounded.Goals as goal

pub returns : goal.returns
returns c = law.accepted_trails_are_bounded
