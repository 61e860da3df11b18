use Rattle.depth_first_list.proofs.TreeLaws as law
use Rattle.depth_first_list.proofs.laws.dummies_are_of_trees.Goals as goal

pub returns : goal.returns
returns c = law.dummies_are_of_trees
