use Rattle.loop_laws.proofs.InRuns.{loops_find_their_blocks}
use Rattle.loop_laws.proofs.laws.loops_find_their_blocks.Goals as goal

pub returns : goal.returns
returns c = loops_find_their_blocks
