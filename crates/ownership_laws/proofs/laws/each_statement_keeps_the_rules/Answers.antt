use Rattle.ownership_laws.proofs.Fitting.{keeps_at}
use Rattle.ownership_laws.proofs.laws.each_statement_keeps_the_rules.Goals as goal

pub returns : goal.returns
returns c = λ setting owned n line stmt rest fs s at running. keeps_at setting owned n line stmt rest fs s at running
