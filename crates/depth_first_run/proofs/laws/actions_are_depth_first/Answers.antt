use Rattle.depth_first_run.proofs.Built.{whole_is_depth_first}
use Rattle.depth_first_run.proofs.laws.actions_are_depth_first.Goals as goal

pub returns : goal.returns
returns c = λ setting. whole_is_depth_first setting
