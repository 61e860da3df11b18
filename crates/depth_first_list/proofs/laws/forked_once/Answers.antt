use Rattle.depth_first_list.proofs.ThreadLaws as law
use Rattle.depth_first_list.proofs.laws.forked_once.Goals as goal

pub returns : goal.returns
returns c = law.forked_once
