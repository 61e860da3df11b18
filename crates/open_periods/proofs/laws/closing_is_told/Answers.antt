use Rattle.open_periods.proofs.Changes as law
use Rattle.open_periods.proofs.laws.closing_is_told.Goals as goal

pub returns : goal.returns
returns c = law.closing_is_told
