use Rattle.node_table.proofs.Finding.{body_below}
use Rattle.node_table.proofs.laws.numbers_have_nodes.Goals as goal

pub returns : goal.returns
returns c = body_below
