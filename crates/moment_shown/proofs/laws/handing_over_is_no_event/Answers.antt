use Rattle.moment_shown.proofs.Handing as law
use Rattle.moment_shown.proofs.laws.handing_over_is_no_event.Goals as goal

pub returns : goal.returns
returns c = law.handing_over_is_no_event
