use Rattle.depth_first_run.proofs.Nearing.{items_grow}
use Rattle.depth_first_run.proofs.laws.items_only_grow.Goals as goal

pub returns : goal.returns
returns c = λ setting m. items_grow setting m
