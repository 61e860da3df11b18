use Rattle.moment_shown.proofs.Births as law
use Rattle.moment_shown.proofs.laws.births_come_parents_first.Goals as goal

pub returns : goal.returns
returns c = law.births_come_parents_first
