use Rattle.moment_laws.proofs.Told as law
use Rattle.moment_laws.proofs.laws.others_add_none.Goals as goal

pub returns : goal.returns
returns c = law.others_add_none
