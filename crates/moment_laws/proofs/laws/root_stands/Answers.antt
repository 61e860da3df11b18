use Rattle.moment_laws.proofs.Standing as law
use Rattle.moment_laws.proofs.laws.root_stands.Goals as goal

pub returns : goal.returns
returns c = law.root_stands
