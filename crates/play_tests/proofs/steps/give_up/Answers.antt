use Rattle.std.proofs.Common.{ap, sym}
use Rattle.open_periods.specs.Tables.{deque_of}
use Rattle.play_tests.proofs.steps.give_up.Goals as goal

pub give_up-requires : goal.give_up-requires
give_up-requires g c = (c.in-Some.seat.now.deque, ap deque_of (sym c.in-Some.ensures))
