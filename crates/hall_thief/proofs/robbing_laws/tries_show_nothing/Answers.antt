use Rattle.hall_thief.proofs.Chosen as law
use Rattle.hall_thief.proofs.robbing_laws.tries_show_nothing.Goals as goal

pub returns : goal.returns
returns c = law.tries_show_nothing
