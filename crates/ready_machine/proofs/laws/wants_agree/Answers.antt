use Rattle.ready_machine.proofs.Agreeing as law
use Rattle.ready_machine.proofs.laws.wants_agree.Goals as goal

pub returns : goal.returns
returns c s some list = law.wants_agree s
