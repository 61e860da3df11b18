use Rattle.depth_first_list.proofs.ThreadLaws as law
use Rattle.depth_first_list.proofs.laws.root_ends.Goals as goal

pub returns : goal.returns
returns c = law.root_ends
