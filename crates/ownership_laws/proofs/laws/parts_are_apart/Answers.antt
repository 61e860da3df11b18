use Rattle.ownership_laws.proofs.Reading.{parts_apart}
use Rattle.ownership_laws.proofs.laws.parts_are_apart.Goals as goal

pub returns : goal.returns
returns c = λ setting owned line b e l r a rest own s at running. parts_apart setting owned line b e l r a rest own s at running
