use Rattle.ready_machine.proofs.PlayedSound as law
use Rattle.ready_machine.proofs.replay_laws.played_is_play.Goals as goal

pub returns : goal.returns
returns c = law.played_is_play
