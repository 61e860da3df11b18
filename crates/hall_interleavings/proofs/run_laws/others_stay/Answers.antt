use Rattle.hall_interleavings.proofs.Staying as law
use Rattle.hall_interleavings.proofs.run_laws.others_stay.Goals as goal

pub returns : goal.returns
returns c = law.others_stay
