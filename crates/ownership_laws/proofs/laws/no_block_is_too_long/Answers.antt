use Rattle.ownership_laws.proofs.Reading.{none_too_long}
use Rattle.ownership_laws.proofs.laws.no_block_is_too_long.Goals as goal

pub returns : goal.returns
returns c = λ setting owned own s at. none_too_long setting owned own s at
