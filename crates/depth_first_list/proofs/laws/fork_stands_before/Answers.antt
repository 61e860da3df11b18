use Rattle.depth_first_list.proofs.ThreadLaws as law
use Rattle.depth_first_list.proofs.laws.fork_stands_before.Goals as goal

pub returns : goal.returns
returns c = law.fork_stands_before
