use Rattle.flat_threads.proofs.Costs.{ways_leave_less}
use Rattle.flat_threads.proofs.laws.ways_leave_less.Goals as goal

pub returns : goal.returns
returns c = ways_leave_less
