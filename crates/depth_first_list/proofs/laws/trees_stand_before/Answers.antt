use Rattle.depth_first_list.proofs.TreeLaws as law
use Rattle.depth_first_list.proofs.laws.trees_stand_before.Goals as goal

pub returns : goal.returns
returns c = law.trees_stand_before
