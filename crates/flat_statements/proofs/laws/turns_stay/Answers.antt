use Rattle.flat_statements.proofs.Turns.{turns_stay}
use Rattle.flat_statements.proofs.laws.turns_stay.Goals as goal

pub returns : goal.returns
returns c = turns_stay
