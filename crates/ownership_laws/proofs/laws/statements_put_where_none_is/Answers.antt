use Rattle.ownership_laws.proofs.Reading.{puts_where_none}
use Rattle.ownership_laws.proofs.laws.statements_put_where_none_is.Goals as goal

pub returns : goal.returns
returns c = λ setting owned line stmt rest own s at running x puts. puts_where_none setting owned line stmt rest own s at running x puts
