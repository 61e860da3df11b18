use Rattle.ownership_laws.proofs.Reading.{keeps_cut}
use Rattle.ownership_laws.proofs.laws.split_bodies_keep_the_cut.Goals as goal

pub returns : goal.returns
returns c = λ setting owned line b e l r a rest own s at running v cut is. keeps_cut setting owned line b e l r a rest own s at running v cut is
