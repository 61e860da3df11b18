use Rattle.scheduler_state.proofs.Marked.{high_at}
use Rattle.dfd_core.proofs.run.Core.high.Goals as goal

pub returns : goal.returns
returns c = λ s run m at. high_at _ _ _ run m at.stands c.high.result c.high.ensures.high c.high.ensures.greatest (record { sfits = c.high.type_inv })
