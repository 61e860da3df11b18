use Rattle.flat_expressions.proofs.Statements.{write_coded}
use Rattle.flat_expressions.proofs.laws.writes_have_code.Goals as goal

pub returns : goal.returns
returns c = write_coded
