use Rattle.open_periods.proofs.Changes as law
use Rattle.open_periods.proofs.laws.beginning_is_told.Goals as goal

pub returns : goal.returns
returns c = law.beginning_is_told
