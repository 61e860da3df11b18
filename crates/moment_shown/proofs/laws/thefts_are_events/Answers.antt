use Rattle.moment_shown.proofs.Moving as law
use Rattle.moment_shown.proofs.laws.thefts_are_events.Goals as goal

pub returns : goal.returns
returns c = law.thefts_are_events
