use Rattle.ready_machine.proofs.Replaying as law
use Rattle.ready_machine.proofs.replay_laws.replays_are_runs.Goals as goal

pub returns : goal.returns
returns c s some list = law.replays_are_runs s list
