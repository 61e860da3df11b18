use Rattle.open_periods.proofs.Labels as law
use Rattle.open_periods.proofs.laws.one_label.Goals as goal

pub returns : goal.returns
returns c = law.one_label
