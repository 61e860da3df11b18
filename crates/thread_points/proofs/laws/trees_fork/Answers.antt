use Rattle.thread_points.proofs.Alone.{tree_forks}
use Rattle.thread_points.proofs.laws.trees_fork.Goals as goal

pub returns : goal.returns
returns c = λ setting child own s. tree_forks setting child own s
