use Rattle.loop_laws.proofs.Cutting.{halved}
use Rattle.loop_laws.proofs.part_loop_laws.long_blocks_are_halved.Goals as goal

pub returns : goal.returns
returns c = λ most items big more. halved most items big more
