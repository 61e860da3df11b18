use Rattle.moment_laws.proofs.Ready as law
use Rattle.moment_laws.proofs.laws.ids_are_shown.Goals as goal

pub returns : goal.returns
returns g c = law.ids_are_shown
