use Rattle.moment_laws.proofs.Ending as law
use Rattle.moment_laws.proofs.laws.others_end_nothing.Goals as goal

pub returns : goal.returns
returns c = law.others_end_nothing
