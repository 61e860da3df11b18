use Rattle.flat_threads.proofs.Bridge.{threads_go}
use Rattle.flat_threads.proofs.laws.threads_go_their_ways.Goals as goal

pub returns : goal.returns
returns c = threads_go
