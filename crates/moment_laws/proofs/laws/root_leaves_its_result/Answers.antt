use Rattle.moment_laws.proofs.Ending as law
use Rattle.moment_laws.proofs.laws.root_leaves_its_result.Goals as goal

pub returns : goal.returns
returns c = law.root_leaves_its_result
