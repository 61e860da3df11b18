use Rattle.thread_map.specs.Kept.{kept_under}
use Rattle.worker_step.proofs.Owning.{some_there}
use Rattle.worker_step.proofs.decisions.by_kept.Goals as goal

pub returns-then-has : goal.returns-then-has
returns-then-has c = some_there (kept_under c.args.results.now c.args.child) (c.has.ensures.0 c.if-has.true)
