use Rattle.thread_frames.proofs.Threads as law
use Rattle.thread_frames.proofs.laws.forks_are_forked.Goals as goal

pub returns : goal.returns
returns c = law.forks_are_forked
