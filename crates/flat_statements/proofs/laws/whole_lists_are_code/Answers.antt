use Rattle.flat_statements.proofs.Reaching.{whole_reaches}
use Rattle.flat_statements.proofs.laws.whole_lists_are_code.Goals as goal

pub returns : goal.returns
returns c = whole_reaches
