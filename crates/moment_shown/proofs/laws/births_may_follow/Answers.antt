use Rattle.moment_shown.proofs.Births as law
use Rattle.moment_shown.proofs.laws.births_may_follow.Goals as goal

pub returns : goal.returns
returns c = law.births_may_follow
