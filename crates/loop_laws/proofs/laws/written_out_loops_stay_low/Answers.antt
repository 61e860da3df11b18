use Rattle.loop_laws.proofs.Loops.{low_loops}
use Rattle.loop_laws.proofs.laws.written_out_loops_stay_low.Goals as goal

pub returns : goal.returns
returns c = low_loops
