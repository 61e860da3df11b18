use Rattle.accepted_source.proofs.Small.{small}
use Rattle.accepted_source.proofs.laws.sizes_are_small.Goals as goal

pub returns : goal.returns
returns c = small
