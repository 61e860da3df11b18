use Rattle.ready_machine.proofs.Ends as law
use Rattle.ready_machine.proofs.laws.runs_are_short.Goals as goal

pub returns : goal.returns
returns c = law.runs_are_short
