use Rattle.moment_laws.proofs.Standing as law
use Rattle.moment_laws.proofs.laws.give_ups_stand.Goals as goal

pub returns : goal.returns
returns c = law.give_ups_stand
