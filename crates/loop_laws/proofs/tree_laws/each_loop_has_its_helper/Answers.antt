use Rattle.loop_laws.proofs.Expanded.{each_loop_has_its_helper}
use Rattle.loop_laws.proofs.tree_laws.each_loop_has_its_helper.Goals as goal

pub returns : goal.returns
returns c = each_loop_has_its_helper
