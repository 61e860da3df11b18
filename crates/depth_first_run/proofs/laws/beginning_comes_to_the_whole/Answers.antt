use Rattle.depth_first_run.proofs.Stepping.{beginning_comes}
use Rattle.depth_first_run.proofs.laws.beginning_comes_to_the_whole.Goals as goal

pub returns : goal.returns
returns c = λ setting. beginning_comes setting
