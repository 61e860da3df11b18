use Rattle.hall_interleavings.proofs.Going as law
use Rattle.hall_interleavings.proofs.run_laws.events_go_on.Goals as goal

pub returns : goal.returns
returns c = law.events_go_on
