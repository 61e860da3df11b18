use Rattle.thread_frames.proofs.Threads as law
use Rattle.thread_frames.proofs.laws.actions_are_acted.Goals as goal

pub returns : goal.returns
returns c = law.actions_are_acted
