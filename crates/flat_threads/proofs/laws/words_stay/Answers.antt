use Rattle.flat_threads.proofs.Bridge.{words_stay}
use Rattle.flat_threads.proofs.laws.words_stay.Goals as goal

pub returns : goal.returns
returns c = words_stay
