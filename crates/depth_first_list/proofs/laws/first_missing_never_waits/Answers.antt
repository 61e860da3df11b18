use Rattle.depth_first_list.proofs.LiveLaws as law
use Rattle.depth_first_list.proofs.laws.first_missing_never_waits.Goals as goal

pub returns : goal.returns
returns c = law.first_missing_never_waits
