use Rattle.open_periods.proofs.Labels as law
use Rattle.open_periods.proofs.laws.labels_stay.Goals as goal

pub returns : goal.returns
returns c = law.labels_stay
