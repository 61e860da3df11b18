use Rattle.flat_statements.proofs.Following.{machine_follows}
use Rattle.flat_statements.proofs.laws.machine_follows_the_thread.Goals as goal

pub returns : goal.returns
returns c = machine_follows
