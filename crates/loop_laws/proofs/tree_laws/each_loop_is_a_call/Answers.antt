use Rattle.loop_laws.proofs.LoopCalls.{each_loop_is_a_call}
use Rattle.loop_laws.proofs.tree_laws.each_loop_is_a_call.Goals as goal

pub returns : goal.returns
returns c = each_loop_is_a_call
