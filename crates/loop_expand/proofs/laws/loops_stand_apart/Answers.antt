use Rattle.loop_expand.proofs.LoopPlaces.{loops_apart}
use Rattle.loop_expand.proofs.laws.loops_stand_apart.Goals as goal

pub returns : goal.returns
returns c = loops_apart
