use Rattle.moment_shown.proofs.Acting as law
use Rattle.moment_shown.proofs.laws.actions_are_events.Goals as goal

pub returns : goal.returns
returns c = law.actions_are_events
