use Rattle.moment_laws.proofs.Told as law
use Rattle.moment_laws.proofs.laws.give_up_is_forced.Goals as goal

pub returns : goal.returns
returns c = law.give_up_is_forced
