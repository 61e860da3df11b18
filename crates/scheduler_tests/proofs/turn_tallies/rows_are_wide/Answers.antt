use Rattle.scheduler_tests.proofs.Tallies.{count_keeps}
use Rattle.scheduler_tests.proofs.turn_tallies.rows_are_wide.Goals as goal

pub count-requires-clause-keeps : goal.count-requires-clause-keeps
count-requires-clause-keeps g c = count_keeps tt _
