use Rattle.moment_laws.proofs.Ready as law
use Rattle.moment_laws.proofs.laws.first_is_shown.Goals as goal

pub returns : goal.returns
returns g c = law.first_is_shown
