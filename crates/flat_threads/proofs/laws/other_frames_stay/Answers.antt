use Rattle.flat_threads.proofs.Others.{other_frames_stay}
use Rattle.flat_threads.proofs.laws.other_frames_stay.Goals as goal

pub returns : goal.returns
returns c = other_frames_stay
