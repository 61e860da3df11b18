use Rattle.loop_laws.proofs.Concluding.{nothing_lent}
use Rattle.loop_laws.proofs.run_laws.integers_lend_nothing.Goals as goal

pub returns : goal.returns
returns c = λ params es blocks caller. nothing_lent params es blocks caller
