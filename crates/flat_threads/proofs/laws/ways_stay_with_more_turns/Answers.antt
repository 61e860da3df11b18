use Rattle.flat_threads.proofs.Turns.{more_turns}
use Rattle.flat_threads.proofs.laws.ways_stay_with_more_turns.Goals as goal

pub returns : goal.returns
returns c = more_turns
