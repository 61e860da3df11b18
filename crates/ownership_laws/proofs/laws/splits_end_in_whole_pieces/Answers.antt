use Rattle.ownership_laws.proofs.Reading.{split_end}
use Rattle.ownership_laws.proofs.laws.splits_end_in_whole_pieces.Goals as goal

pub returns : goal.returns
returns c = λ setting owned b l r own s at running. split_end setting owned b l r own s at running
