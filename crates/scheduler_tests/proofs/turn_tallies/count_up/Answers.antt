use Rattle.scheduler_tests.proofs.Tallies.{count_keeps}
use Rattle.scheduler_tests.proofs.turn_tallies.count_up.Goals as goal

pub count-requires-clause-keeps : goal.count-requires-clause-keeps
count-requires-clause-keeps c = count_keeps tt c.loop-done.seat
