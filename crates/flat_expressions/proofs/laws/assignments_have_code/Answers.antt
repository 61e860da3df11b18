use Rattle.flat_expressions.proofs.Statements.{assignment_coded}
use Rattle.flat_expressions.proofs.laws.assignments_have_code.Goals as goal

pub returns : goal.returns
returns c = assignment_coded
