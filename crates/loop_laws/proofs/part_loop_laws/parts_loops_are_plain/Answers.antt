use Rattle.loop_laws.proofs.PlainParts.{parts_loops}
use Rattle.loop_laws.proofs.part_loop_laws.parts_loops_are_plain.Goals as goal

pub returns : goal.returns
returns c = parts_loops
