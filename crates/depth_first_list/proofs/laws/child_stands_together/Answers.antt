use Rattle.depth_first_list.proofs.ThreadLaws as law
use Rattle.depth_first_list.proofs.laws.child_stands_together.Goals as goal

pub returns : goal.returns
returns c = law.child_stands_together
