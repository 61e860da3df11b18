use Rattle.open_periods.proofs.Lists as law
use Rattle.open_periods.proofs.laws.replaced_twice.Goals as goal

pub returns : goal.returns
returns c = law.replaced_twice
