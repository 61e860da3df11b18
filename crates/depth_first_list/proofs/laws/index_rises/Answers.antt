use Rattle.depth_first_list.proofs.ThreadLaws as law
use Rattle.depth_first_list.proofs.laws.index_rises.Goals as goal

pub returns : goal.returns
returns c = law.index_rises_law
