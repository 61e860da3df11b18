use Rattle.depth_first_list.proofs.LiveLaws as law
use Rattle.depth_first_list.proofs.laws.parents_are_live.Goals as goal

pub returns : goal.returns
returns c = law.parents_are_live
