use Rattle.loop_laws.proofs.PartsBeginning.{sums_begin}
use Rattle.loop_laws.proofs.part_loop_laws.sums_of_parts_may_begin_at_zero.Goals as goal

pub returns : goal.returns
returns c = sums_begin
