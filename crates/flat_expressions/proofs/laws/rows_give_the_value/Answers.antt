use Rattle.flat_expressions.proofs.Shown.{value_shown}
use Rattle.flat_expressions.proofs.laws.rows_give_the_value.Goals as goal

pub returns : goal.returns
returns c = λ names row store e shows fits. value_shown names row store shows e fits
