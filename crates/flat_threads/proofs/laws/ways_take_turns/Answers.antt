use Rattle.flat_threads.proofs.Fewer.{ways_take_turns}
use Rattle.flat_threads.proofs.laws.ways_take_turns.Goals as goal

pub returns : goal.returns
returns c = ways_take_turns
