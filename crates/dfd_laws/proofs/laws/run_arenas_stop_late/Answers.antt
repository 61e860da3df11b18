use Rattle.dfd_laws.proofs.RunHeadline as law
use Rattle.dfd_laws.proofs.laws.run_arenas_stop_late.Goals as goal

pub returns : goal.returns
returns c = λ command p ranges owned. law.arenas_stop_late command p ranges
