use Rattle.flat_statements.proofs.Ending.{machine_ends}
use Rattle.flat_statements.proofs.laws.machine_ends_with_the_thread.Goals as goal

pub returns : goal.returns
returns c = machine_ends
