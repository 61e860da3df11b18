use Rattle.ownership_laws.proofs.Reading.{main_end}
use Rattle.ownership_laws.proofs.laws.main_ends_with_nothing.Goals as goal

pub returns : goal.returns
returns c = λ setting owned ret own s at running. main_end setting owned ret own s at running
