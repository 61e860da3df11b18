use Rattle.ownership_laws.proofs.Reading.{parameters_apart}
use Rattle.ownership_laws.proofs.laws.parameters_are_apart.Goals as goal

pub returns : goal.returns
returns c = λ setting owned line t f args rest own s g at running is x. parameters_apart setting owned line t f args rest own s g at running is x
