use Rattle.flat_code.proofs.More.{longer_rows}
use Rattle.flat_code.proofs.laws.longer_rows_serve.Goals as goal

pub returns : goal.returns
returns c = longer_rows
