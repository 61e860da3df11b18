use Rattle.depth_first_list.proofs.OrderLaw as law
use Rattle.depth_first_list.proofs.laws.first_missing_is_next.Goals as goal

pub returns : goal.returns
returns c = law.first_missing_is_next
