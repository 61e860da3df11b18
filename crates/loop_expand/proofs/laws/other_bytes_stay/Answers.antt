use Rattle.loop_expand.proofs.LoopPlaces.{other_bytes_stay}
use Rattle.loop_expand.proofs.laws.other_bytes_stay.Goals as goal

pub returns : goal.returns
returns c = other_bytes_stay
