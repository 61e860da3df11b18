use Rattle.deque_machine.proofs.Accounting as law
use Rattle.deque_machine.proofs.laws.accounting.Goals as goal

pub returns : goal.returns
returns c = law.accounting
