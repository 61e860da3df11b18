use Rattle.depth_first_list.proofs.OrderLaw as law
use Rattle.depth_first_list.proofs.laws.labels_follow_the_list.Goals as goal

pub returns : goal.returns
returns c = law.labels_follow_the_list
