use Rattle.ownership_laws.proofs.Owned.{nothing_held}
use Rattle.ownership_laws.proofs.laws.nothing_is_held_at_the_end.Goals as goal

pub returns : goal.returns
returns c = λ setting owned. nothing_held setting owned
