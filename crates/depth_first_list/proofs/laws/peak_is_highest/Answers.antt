use Rattle.depth_first_list.proofs.Peak as law
use Rattle.depth_first_list.proofs.laws.peak_is_highest.Goals as goal

pub returns : goal.returns
returns c = law.peak_is_highest
