use Rattle.thread_points.proofs.Telling.{tells_whole}
use Rattle.thread_points.proofs.laws.the_root_tells_the_whole.Goals as goal

pub returns : goal.returns
returns c = λ setting s part th l. tells_whole setting s part th l
