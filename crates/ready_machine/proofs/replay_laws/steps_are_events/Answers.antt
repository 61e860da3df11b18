use Rattle.ready_machine.proofs.Replaying as law
use Rattle.ready_machine.proofs.replay_laws.steps_are_events.Goals as goal

pub returns : goal.returns
returns c s some list m after worker event ready is = law.ready_step_sound s list m ready worker event after is
