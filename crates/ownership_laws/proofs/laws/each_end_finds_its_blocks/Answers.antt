use Rattle.ownership_laws.proofs.Fitting.{end_finds_at}
use Rattle.ownership_laws.proofs.laws.each_end_finds_its_blocks.Goals as goal

pub returns : goal.returns
returns c = λ setting owned n f fs s at running x needs. end_finds_at setting owned n f fs s at running x needs
