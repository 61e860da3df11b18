use Rattle.hall_slots.proofs.Stopped as law
use Rattle.hall_slots.proofs.stop_laws.memory_needs_no_cause.Goals as goal

pub returns : goal.returns
returns c = law.memory_needs_no_cause
