use Rattle.trail_check.proofs.AVerdict as law
use Rattle.trail_check.proofs.good_laws.a_verdict.Goals as goal

pub returns : goal.returns
returns c = law.a_verdict
