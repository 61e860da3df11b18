use Rattle.moment_laws.proofs.Standing as law
use Rattle.moment_laws.proofs.laws.handings_stand.Goals as goal

pub returns : goal.returns
returns c = law.handings_stand
