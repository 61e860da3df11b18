use Rattle.loop_laws.proofs.Loops.{written_out_loops}
use Rattle.loop_laws.proofs.laws.written_out_loops_are_plain.Goals as goal

pub returns : goal.returns
returns c = written_out_loops
