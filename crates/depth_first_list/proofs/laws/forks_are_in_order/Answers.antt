use Rattle.depth_first_list.proofs.ThreadLaws as law
use Rattle.depth_first_list.proofs.laws.forks_are_in_order.Goals as goal

pub returns : goal.returns
returns c = law.forks_are_in_order
