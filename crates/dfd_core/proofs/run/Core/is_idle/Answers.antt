use Rattle.dfd_core.proofs.Picking.{draws_at}
use Rattle.dfd_core.proofs.run.Core.is_idle.Goals as goal

pub returns : goal.returns
returns c = λ s run m at. draws_at _ _ _ _ c.args.self.now.sound c.args.self.now.end s run m at c.args.worker c.seat.result c.is_none.result c.is_none.ensures c.seat.ensures
