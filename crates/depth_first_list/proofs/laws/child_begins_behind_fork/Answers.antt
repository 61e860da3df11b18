use Rattle.depth_first_list.proofs.ThreadLaws as law
use Rattle.depth_first_list.proofs.laws.child_begins_behind_fork.Goals as goal

pub returns : goal.returns
returns c = law.child_begins_behind_fork
