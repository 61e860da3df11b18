use Rattle.depth_first_list.proofs.JoinLaws as law
use Rattle.depth_first_list.proofs.laws.each_child_is_joined.Goals as goal

pub returns : goal.returns
returns c = law.each_child_is_joined
