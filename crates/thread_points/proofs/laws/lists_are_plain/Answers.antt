use Rattle.thread_points.proofs.Walking.{before_plain}
use Rattle.thread_points.proofs.laws.lists_are_plain.Goals as goal

pub returns : goal.returns
returns c = λ b fs plain. before_plain b fs plain
