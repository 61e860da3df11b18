use Rattle.thread_points.proofs.Telling.{one_part_more}
use Rattle.thread_points.proofs.laws.one_part_more.Goals as goal

pub returns : goal.returns
returns c = λ setting own s parts th. one_part_more setting own s parts th
