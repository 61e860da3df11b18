use Rattle.depth_first_list.proofs.Trees as law
use Rattle.depth_first_list.proofs.laws.tree_runs_as_shaped.Goals as goal

pub returns : goal.returns
returns c = law.tree_kinds
