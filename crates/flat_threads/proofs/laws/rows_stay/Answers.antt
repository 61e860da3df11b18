use Rattle.flat_threads.proofs.Rows.{rows_stay}
use Rattle.flat_threads.proofs.laws.rows_stay.Goals as goal

pub returns : goal.returns
returns c = rows_stay
