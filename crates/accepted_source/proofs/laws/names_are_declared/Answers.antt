use Rattle.accepted_source.proofs.Naming.{declared}
use Rattle.accepted_source.proofs.laws.names_are_declared.Goals as goal

pub returns : goal.returns
returns c = declared
