use Rattle.ownership_laws.proofs.Reading.{frame_where_none}
use Rattle.ownership_laws.proofs.laws.frames_put_where_none_is.Goals as goal

pub returns : goal.returns
returns c = λ setting owned f own s at running x puts. frame_where_none setting owned f own s at running x puts
