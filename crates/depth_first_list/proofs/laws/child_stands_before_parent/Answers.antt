use Rattle.depth_first_list.proofs.ThreadLaws as law
use Rattle.depth_first_list.proofs.laws.child_stands_before_parent.Goals as goal

pub returns : goal.returns
returns c = law.child_stands_before_parent
