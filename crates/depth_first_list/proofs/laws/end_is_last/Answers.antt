use Rattle.depth_first_list.proofs.ThreadLaws as law
use Rattle.depth_first_list.proofs.laws.end_is_last.Goals as goal

pub returns : goal.returns
returns c = law.end_is_last
