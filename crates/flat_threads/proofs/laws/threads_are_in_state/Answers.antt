use Rattle.flat_threads.proofs.Bridge.{in_state}
use Rattle.flat_threads.proofs.laws.threads_are_in_state.Goals as goal

pub returns : goal.returns
returns c = in_state
