use Rattle.std.specs.Prelude.{length}
use Rattle.loop_laws.proofs.Cutting.{joined_within}
use Rattle.loop_laws.proofs.part_loop_laws.parts_make_the_block.Goals as goal

pub returns : goal.returns
returns c = λ most items. joined_within (length items) most items
