use Rattle.node_table.proofs.Distinct.{names_differ}
use Rattle.node_table.proofs.laws.slot_names_differ.Goals as goal

pub returns : goal.returns
returns c = names_differ
