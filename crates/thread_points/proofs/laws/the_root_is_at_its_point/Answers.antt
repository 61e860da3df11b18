use Rattle.thread_points.proofs.Walking.{root_at}
use Rattle.thread_points.proofs.laws.the_root_is_at_its_point.Goals as goal

pub returns : goal.returns
returns c = λ setting. root_at setting
