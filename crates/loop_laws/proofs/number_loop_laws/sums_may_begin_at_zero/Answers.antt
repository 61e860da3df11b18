use Rattle.loop_laws.proofs.Beginning.{sums_begin}
use Rattle.loop_laws.proofs.number_loop_laws.sums_may_begin_at_zero.Goals as goal

pub returns : goal.returns
returns c = sums_begin
