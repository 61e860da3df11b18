use Rattle.moment_laws.proofs.Standing as law
use Rattle.moment_laws.proofs.laws.actions_stand.Goals as goal

pub returns : goal.returns
returns c = law.actions_stand
