use Rattle.loop_laws.proofs.Expanded.{helpers_stand_behind}
use Rattle.loop_laws.proofs.tree_laws.helpers_stand_behind.Goals as goal

pub returns : goal.returns
returns c = helpers_stand_behind
