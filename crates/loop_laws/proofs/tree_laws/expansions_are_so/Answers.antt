use Rattle.loop_laws.proofs.WholeExpansions.{expansions_are_so}
use Rattle.loop_laws.proofs.tree_laws.expansions_are_so.Goals as goal

pub returns : goal.returns
returns c = expansions_are_so
