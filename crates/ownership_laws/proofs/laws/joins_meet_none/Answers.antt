use Rattle.ownership_laws.proofs.Reading.{join_meets_none}
use Rattle.ownership_laws.proofs.laws.joins_meet_none.Goals as goal

pub returns : goal.returns
returns c = λ setting owned assigned child d own s at running goes_on x. join_meets_none setting owned assigned child d own s at running goes_on x
