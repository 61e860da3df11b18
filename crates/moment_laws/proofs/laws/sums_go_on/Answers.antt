use Rattle.moment_laws.proofs.Sums as law
use Rattle.moment_laws.proofs.laws.sums_go_on.Goals as goal

pub returns : goal.returns
returns c = law.sums_go_on
