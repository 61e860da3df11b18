use Rattle.ready_machine.proofs.Playing as law
use Rattle.ready_machine.proofs.laws.arenas_with_room_last.Goals as goal

pub returns : goal.returns
returns c = law.arenas_with_room_last
