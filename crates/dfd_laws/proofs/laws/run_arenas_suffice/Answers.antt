use Rattle.dfd_laws.proofs.RunHeadline as law
use Rattle.dfd_laws.proofs.laws.run_arenas_suffice.Goals as goal

pub returns : goal.returns
returns c = λ command p ranges owned. law.arena_suffices command p ranges
