use Rattle.moment_laws.proofs.Told as law
use Rattle.moment_laws.proofs.laws.actions_are_added.Goals as goal

pub returns : goal.returns
returns c = law.actions_are_added
