use Rattle.moment_laws.proofs.Ending as law
use Rattle.moment_laws.proofs.laws.root_ends_once.Goals as goal

pub returns : goal.returns
returns c = law.root_ends_once
