use Rattle.flat_threads.proofs.Costs.{steps_leave_less}
use Rattle.flat_threads.proofs.laws.steps_leave_less.Goals as goal

pub returns : goal.returns
returns c = steps_leave_less
