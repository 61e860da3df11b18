use Rattle.par_ownership.proofs.NewNames.{names_differ}
use Rattle.accepted_source.proofs.laws.function_names_differ.Goals as goal

pub returns : goal.returns
returns c = names_differ
