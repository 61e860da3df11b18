use Rattle.moment_shown.proofs.Moving as law
use Rattle.moment_shown.proofs.laws.give_ups_are_events.Goals as goal

pub returns : goal.returns
returns c = law.give_ups_are_events
