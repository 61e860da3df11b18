use Rattle.thread_frames.proofs.Threads as law
use Rattle.thread_frames.proofs.laws.joins_are_joined.Goals as goal

pub returns : goal.returns
returns c = law.joins_are_joined
