use Rattle.trail_check.proofs.Ended as law
use Rattle.trail_check.proofs.good_laws.root_ends_last.Goals as goal

pub returns : goal.returns
returns c = law.root_ends_last
