use Rattle.ready_machine.proofs.Agreeing as law
use Rattle.ready_machine.proofs.laws.movers_agree.Goals as goal

pub returns : goal.returns
returns c s some list = law.movers_agree s
