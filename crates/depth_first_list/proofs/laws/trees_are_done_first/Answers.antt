use Rattle.depth_first_list.proofs.TreeLaws as law
use Rattle.depth_first_list.proofs.laws.trees_are_done_first.Goals as goal

pub returns : goal.returns
returns c = law.trees_are_done_first
