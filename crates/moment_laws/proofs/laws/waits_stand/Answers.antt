use Rattle.moment_laws.proofs.Standing as law
use Rattle.moment_laws.proofs.laws.waits_stand.Goals as goal

pub returns : goal.returns
returns c = law.waits_stand
