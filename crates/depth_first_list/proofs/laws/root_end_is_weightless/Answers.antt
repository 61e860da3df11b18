use Rattle.depth_first_list.proofs.Weights as law
use Rattle.depth_first_list.proofs.laws.root_end_is_weightless.Goals as goal

pub returns : goal.returns
returns c = law.root_end_is_weightless
