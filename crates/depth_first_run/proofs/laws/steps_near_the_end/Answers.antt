use Rattle.depth_first_run.proofs.Nearing.{advance_nears}
use Rattle.depth_first_run.proofs.laws.steps_near_the_end.Goals as goal

pub returns : goal.returns
returns c = λ setting f fs s. advance_nears setting f fs s
