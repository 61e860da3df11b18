use Rattle.moment_laws.proofs.Going as law
use Rattle.moment_laws.proofs.laws.runs_go_on.Goals as goal

pub returns : goal.returns
returns c = law.runs_go_on
