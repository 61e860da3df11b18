use Rattle.flat_threads.proofs.Bridge.{in_later_state}
use Rattle.flat_threads.proofs.laws.threads_are_in_later_state.Goals as goal

pub returns : goal.returns
returns c = in_later_state
