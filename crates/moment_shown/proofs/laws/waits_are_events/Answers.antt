use Rattle.moment_shown.proofs.Moving as law
use Rattle.moment_shown.proofs.laws.waits_are_events.Goals as goal

pub returns : goal.returns
returns c = law.waits_are_events
