use Rattle.ready_machine.proofs.Going as law
use Rattle.ready_machine.proofs.laws.fronts_take_turns.Goals as goal

pub returns : goal.returns
returns c s some list = law.fronts_take_turns s
