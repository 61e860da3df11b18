use Rattle.node_table.proofs.Finding.{callee}
use Rattle.node_table.proofs.laws.calls_find_functions.Goals as goal

pub returns : goal.returns
returns c = callee
