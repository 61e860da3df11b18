use Rattle.trail_check.proofs.Ended as law
use Rattle.trail_check.proofs.good_laws.nothing_behind_the_end.Goals as goal

pub returns : goal.returns
returns c = law.nothing_behind_the_end
