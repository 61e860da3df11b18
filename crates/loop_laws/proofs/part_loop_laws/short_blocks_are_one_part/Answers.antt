use Rattle.std.specs.Prelude.{length}
use Rattle.loop_laws.proofs.Cutting.{one_part}
use Rattle.loop_laws.proofs.part_loop_laws.short_blocks_are_one_part.Goals as goal

pub returns : goal.returns
returns c = λ most items le. one_part (length items) most items le
