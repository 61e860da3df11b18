use Rattle.flat_statements.proofs.Behind.{frame_behind}
use Rattle.flat_statements.proofs.laws.frames_behind_stay.Goals as goal

pub returns : goal.returns
returns c = frame_behind
