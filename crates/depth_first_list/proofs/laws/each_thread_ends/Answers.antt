use Rattle.depth_first_list.proofs.ThreadLaws as law
use Rattle.depth_first_list.proofs.laws.each_thread_ends.Goals as goal

pub returns : goal.returns
returns c = law.each_thread_ends
