use Rattle.depth_first_list.proofs.JoinLaws as law
use Rattle.depth_first_list.proofs.laws.join_stands_behind_child.Goals as goal

pub returns : goal.returns
returns c = law.join_stands_behind_child
