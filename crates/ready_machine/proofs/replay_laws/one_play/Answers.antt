use Rattle.ready_machine.proofs.Ones as law
use Rattle.ready_machine.proofs.replay_laws.one_play.Goals as goal

pub returns : goal.returns
returns c = law.one_play
