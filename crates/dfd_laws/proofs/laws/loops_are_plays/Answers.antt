use Rattle.dfd_laws.proofs.Expansions as law
use Rattle.dfd_laws.proofs.laws.loops_are_plays.Goals as goal

pub returns : goal.returns
returns c = law.loops_are_plays
