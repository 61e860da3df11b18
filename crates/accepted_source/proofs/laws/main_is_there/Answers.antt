use Rattle.accepted_source.proofs.Functions.{main_of}
use Rattle.accepted_source.proofs.laws.main_is_there.Goals as goal

pub returns : goal.returns
returns c = main_of
