use Rattle.depth_first_list.proofs.JoinLaws as law
use Rattle.depth_first_list.proofs.laws.joined_once.Goals as goal

pub returns : goal.returns
returns c = law.joined_once_law
