use Rattle.open_periods.proofs.Changes as law
use Rattle.open_periods.proofs.laws.none_tell.Goals as goal

pub returns : goal.returns
returns c = law.none_tell
