use Rattle.loop_laws.proofs.InRuns.{loops_of_runs}
use Rattle.loop_laws.proofs.laws.loops_of_runs_are_plain.Goals as goal

pub returns : goal.returns
returns c = loops_of_runs
