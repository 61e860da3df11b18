use Rattle.ready_machine.proofs.Coming as law
use Rattle.ready_machine.proofs.laws.somebodys_turn.Goals as goal

pub returns : goal.returns
returns c s some list = law.somebodys_turn s list
