use Rattle.moment_laws.proofs.Told as law
use Rattle.moment_laws.proofs.laws.wait_is_wanted.Goals as goal

pub returns : goal.returns
returns c = law.wait_is_wanted
