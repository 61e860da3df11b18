use Rattle.flat_statements.proofs.Reaching.{goes_on}
use Rattle.flat_statements.proofs.laws.code_goes_on.Goals as goal

pub returns : goal.returns
returns c = goes_on
