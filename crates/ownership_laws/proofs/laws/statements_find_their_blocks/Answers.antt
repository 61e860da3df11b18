use Rattle.ownership_laws.proofs.Needed.{needed_is_there}
use Rattle.ownership_laws.proofs.laws.statements_find_their_blocks.Goals as goal

pub returns : goal.returns
returns c = λ p line stmt env after s owns holds x needs. needed_is_there p line stmt env after s owns holds x needs
