use Rattle.moment_laws.proofs.Ready as law
use Rattle.moment_laws.proofs.laws.owners_are_shown.Goals as goal

pub returns : goal.returns
returns g c = law.owners_are_shown
