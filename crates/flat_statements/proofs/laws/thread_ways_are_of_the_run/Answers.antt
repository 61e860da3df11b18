use Rattle.flat_statements.proofs.Ways.{ways_of_the_run}
use Rattle.flat_statements.proofs.laws.thread_ways_are_of_the_run.Goals as goal

pub returns : goal.returns
returns c = ways_of_the_run
