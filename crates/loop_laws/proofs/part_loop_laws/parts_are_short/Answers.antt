use Rattle.std.specs.Prelude.{length}
use Rattle.std.proofs.Common.{arith}
use Rattle.loop_laws.proofs.Cutting.{parts_fit}
use Rattle.loop_laws.proofs.part_loop_laws.parts_are_short.Goals as goal

pub returns : goal.returns
returns c = λ most items big. parts_fit (length items) most items big (omega arith)
