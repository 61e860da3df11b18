use Rattle.thread_points.proofs.Alone.{plain_alone}
use Rattle.thread_points.proofs.laws.plain_steps_are_alone.Goals as goal

pub returns : goal.returns
returns c = λ setting f s own put. plain_alone setting f s own put
