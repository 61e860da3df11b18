use Rattle.thread_frames.proofs.Threads as law
use Rattle.thread_frames.proofs.laws.deliveries_hand_over.Goals as goal

pub returns : goal.returns
returns c = law.deliveries_hand_over
