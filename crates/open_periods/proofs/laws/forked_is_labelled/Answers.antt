use Rattle.open_periods.proofs.Labels as law
use Rattle.open_periods.proofs.laws.forked_is_labelled.Goals as goal

pub returns : goal.returns
returns c = law.forked_is_labelled
