use Rattle.open_periods.proofs.Labels as law
use Rattle.open_periods.proofs.laws.labels_are_by_births.Goals as goal

pub returns : goal.returns
returns c = law.labels_are_by_births
