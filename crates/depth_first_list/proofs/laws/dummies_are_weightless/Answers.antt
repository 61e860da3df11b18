use Rattle.depth_first_list.proofs.Weights as law
use Rattle.depth_first_list.proofs.laws.dummies_are_weightless.Goals as goal

pub returns : goal.returns
returns c = law.dummies_are_weightless
