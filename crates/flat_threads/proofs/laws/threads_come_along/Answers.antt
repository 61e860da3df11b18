use Rattle.flat_threads.proofs.Along.{threads_come_along}
use Rattle.flat_threads.proofs.laws.threads_come_along.Goals as goal

pub returns : goal.returns
returns c = threads_come_along
