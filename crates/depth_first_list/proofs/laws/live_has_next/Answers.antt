use Rattle.depth_first_list.proofs.OrderLaw as law
use Rattle.depth_first_list.proofs.laws.live_has_next.Goals as goal

pub returns : goal.returns
returns c = law.live_has_next
