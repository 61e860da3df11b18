use Rattle.depth_first_list.proofs.ThreadLaws as law
use Rattle.depth_first_list.proofs.laws.no_index_is_skipped.Goals as goal

pub returns : goal.returns
returns c = law.no_index_is_skipped
