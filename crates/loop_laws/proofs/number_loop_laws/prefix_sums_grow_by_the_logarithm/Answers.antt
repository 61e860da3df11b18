use Rattle.loop_laws.proofs.Logarithm.{prefix_sums}
use Rattle.loop_laws.proofs.number_loop_laws.prefix_sums_grow_by_the_logarithm.Goals as goal

pub returns : goal.returns
returns c = prefix_sums
