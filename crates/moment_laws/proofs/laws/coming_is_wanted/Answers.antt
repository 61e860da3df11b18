use Rattle.moment_laws.proofs.Told as law
use Rattle.moment_laws.proofs.laws.coming_is_wanted.Goals as goal

pub returns : goal.returns
returns c = law.coming_is_wanted
