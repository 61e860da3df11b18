use Rattle.std.proofs.Common.{◌≡◌, ◌+◌, []}
use Rattle.turn_table.specs.Tables.{IsSeatOf}
use Rattle.scheduler_tests.proofs.turn_tallies.count_up.Given as goal

abbrev pub invariant-loop-done : goal.invariant-loop-done
invariant-loop-done l = IsSeatOf l.row l.seat × (l.seat.hand.holds ≡ []) × (l.seat.hand.note ≡ l.initial.seat.hand.note + l.done)
