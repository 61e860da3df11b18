use Rattle.flat_expressions.proofs.Statements.{condition_coded}
use Rattle.flat_expressions.proofs.laws.conditions_have_code.Goals as goal

pub returns : goal.returns
returns c = condition_coded
