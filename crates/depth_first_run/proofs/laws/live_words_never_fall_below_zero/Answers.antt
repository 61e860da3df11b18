use Rattle.depth_first_run.proofs.Covered.{never_below}
use Rattle.depth_first_run.proofs.laws.live_words_never_fall_below_zero.Goals as goal

pub returns : goal.returns
returns c = λ setting n. never_below setting n
