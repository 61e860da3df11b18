use Rattle.depth_first_run.proofs.Fixed.{run_fixed}
use Rattle.depth_first_run.proofs.laws.run_is_fixed.Goals as goal

pub returns : goal.returns
returns c = λ setting b s. run_fixed setting b s
