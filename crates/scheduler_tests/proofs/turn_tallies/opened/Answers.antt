use Rattle.scheduler_tests.proofs.Tallies.{split_keeps}
use Rattle.scheduler_tests.proofs.turn_tallies.opened.Goals as goal

pub split_seat-b-requires-clause-keeps : goal.split_seat-b-requires-clause-keeps
split_seat-b-requires-clause-keeps c = split_keeps tt c.in-Ok.a
