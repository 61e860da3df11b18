use Rattle.thread_frames.proofs.Threads as law
use Rattle.thread_frames.proofs.laws.next_actions_stand.Goals as goal

pub returns : goal.returns
returns c = law.next_actions_stand
