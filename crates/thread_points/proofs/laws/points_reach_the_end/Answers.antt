use Rattle.thread_points.proofs.Reaching.{end_reached}
use Rattle.thread_points.proofs.laws.points_reach_the_end.Goals as goal

pub returns : goal.returns
returns c = λ setting. end_reached setting
