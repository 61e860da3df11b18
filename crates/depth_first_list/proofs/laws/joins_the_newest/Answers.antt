use Rattle.depth_first_list.proofs.JoinLaws as law
use Rattle.depth_first_list.proofs.laws.joins_the_newest.Goals as goal

pub returns : goal.returns
returns c = law.joins_the_newest_law
