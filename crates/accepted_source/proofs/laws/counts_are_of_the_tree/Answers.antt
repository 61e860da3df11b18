use Rattle.accepted_source.proofs.Small.{counts}
use Rattle.accepted_source.proofs.laws.counts_are_of_the_tree.Goals as goal

pub returns : goal.returns
returns c = counts
