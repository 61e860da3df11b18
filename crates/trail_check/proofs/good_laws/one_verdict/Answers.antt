use Rattle.trail_check.proofs.OneVerdict as law
use Rattle.trail_check.proofs.good_laws.one_verdict.Goals as goal

pub returns : goal.returns
returns c = law.one_verdict
