use Rattle.ownership_laws.proofs.Fitting.{finds_at}
use Rattle.ownership_laws.proofs.laws.each_statement_finds_its_blocks.Goals as goal

pub returns : goal.returns
returns c = λ setting owned n line stmt rest fs s at running x needs. finds_at setting owned n line stmt rest fs s at running x needs
