use Rattle.thread_points.proofs.Telling.{tell_together}
use Rattle.thread_points.proofs.laws.parts_tell_together.Goals as goal

pub returns : goal.returns
returns c = λ xs ys. tell_together xs ys
