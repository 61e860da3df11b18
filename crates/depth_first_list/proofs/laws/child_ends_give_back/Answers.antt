use Rattle.depth_first_list.proofs.Weights as law
use Rattle.depth_first_list.proofs.laws.child_ends_give_back.Goals as goal

pub returns : goal.returns
returns c = law.child_ends_give_back
