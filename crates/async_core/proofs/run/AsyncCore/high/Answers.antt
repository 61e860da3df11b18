use Rattle.scheduler_state.proofs.Marked.{high_at}
use Rattle.async_core.proofs.run.AsyncCore.high.Goals as goal

pub returns : goal.returns
returns c = λ s run m at. high_at _ _ _ run m at.stands c.high.result c.high.ensures.high c.high.ensures.greatest (record { sfits = c.high.type_inv })
