use Rattle.depth_first_list.proofs.LiveLaws as law
use Rattle.depth_first_list.proofs.laws.root_end_means_all.Goals as goal

pub returns : goal.returns
returns c = law.root_end_means_all
