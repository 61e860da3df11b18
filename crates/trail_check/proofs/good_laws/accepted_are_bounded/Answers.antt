use Rattle.trail_check.proofs.Bounded as law
use Rattle.trail_check.proofs.good_laws.accepted_are_bounded.Goals as goal

pub returns : goal.returns
returns c = law.accepted_are_bounded
