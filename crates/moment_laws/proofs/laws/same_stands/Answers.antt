use Rattle.moment_laws.proofs.Standing as law
use Rattle.moment_laws.proofs.laws.same_stands.Goals as goal

pub returns : goal.returns
returns c = law.same_stands
