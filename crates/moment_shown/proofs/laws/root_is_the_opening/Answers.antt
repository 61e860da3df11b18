use Rattle.moment_shown.proofs.Handing as law
use Rattle.moment_shown.proofs.laws.root_is_the_opening.Goals as goal

pub returns : goal.returns
returns c = law.root_is_the_opening
