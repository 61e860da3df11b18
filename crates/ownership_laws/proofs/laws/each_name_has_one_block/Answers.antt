use Rattle.ownership_laws.proofs.Reading.{one_each}
use Rattle.ownership_laws.proofs.laws.each_name_has_one_block.Goals as goal

pub returns : goal.returns
returns c = λ setting owned own s at. one_each setting owned own s at
