use Rattle.hall_interleavings.proofs.Running as law
use Rattle.hall_interleavings.proofs.run_laws.seats_make_one_run.Goals as goal

pub returns : goal.returns
returns c = law.seats_make_one_run
