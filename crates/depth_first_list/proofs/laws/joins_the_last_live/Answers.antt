use Rattle.depth_first_list.proofs.LiveLaws as law
use Rattle.depth_first_list.proofs.laws.joins_the_last_live.Goals as goal

pub returns : goal.returns
returns c = law.joins_the_last_live
