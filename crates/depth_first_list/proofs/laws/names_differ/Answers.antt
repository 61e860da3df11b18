use Rattle.depth_first_list.proofs.ThreadLaws as law
use Rattle.depth_first_list.proofs.laws.names_differ.Goals as goal

pub returns : goal.returns
returns c = law.names_differ
