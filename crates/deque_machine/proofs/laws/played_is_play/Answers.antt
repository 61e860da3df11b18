use Rattle.deque_machine.proofs.PlayedSound as law
use Rattle.deque_machine.proofs.laws.played_is_play.Goals as goal

pub returns : goal.returns
returns c = law.played_is_play
