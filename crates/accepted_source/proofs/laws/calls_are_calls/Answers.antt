use Rattle.accepted_source.proofs.Passing.{calls}
use Rattle.accepted_source.proofs.laws.calls_are_calls.Goals as goal

pub returns : goal.returns
returns c = calls
