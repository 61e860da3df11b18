use Rattle.scheduler_tests.proofs.Tallies.{join_keeps}
use Rattle.scheduler_tests.proofs.turn_tallies.count_in_two_threads.Goals as goal

pub join_seat-requires-clause-keeps : goal.join_seat-requires-clause-keeps
join_seat-requires-clause-keeps g c = join_keeps tt _ _
