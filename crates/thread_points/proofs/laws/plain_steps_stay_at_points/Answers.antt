use Rattle.thread_points.proofs.Walking.{plain_step}
use Rattle.thread_points.proofs.laws.plain_steps_stay_at_points.Goals as goal

pub returns : goal.returns
returns c = λ setting f own s at put. plain_step setting f own s at put
