use Rattle.open_periods.proofs.Labels as law
use Rattle.open_periods.proofs.laws.next_is_new.Goals as goal

pub returns : goal.returns
returns c = law.next_is_new
