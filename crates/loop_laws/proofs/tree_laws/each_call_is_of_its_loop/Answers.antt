use Rattle.loop_laws.proofs.OneCall.{each_call_is_of_its_loop}
use Rattle.loop_laws.proofs.tree_laws.each_call_is_of_its_loop.Goals as goal

pub returns : goal.returns
returns c = each_call_is_of_its_loop
