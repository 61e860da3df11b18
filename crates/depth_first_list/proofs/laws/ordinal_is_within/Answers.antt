use Rattle.depth_first_list.proofs.ThreadLaws as law
use Rattle.depth_first_list.proofs.laws.ordinal_is_within.Goals as goal

pub returns : goal.returns
returns c = law.ordinal_is_within
