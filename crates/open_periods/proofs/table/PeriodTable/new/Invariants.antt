use Rattle.std.proofs.Common.{◌≡◌, length}
use Rattle.open_periods.proofs.Seats.{AllNone}
use Rattle.open_periods.proofs.table.PeriodTable.new.Given as goal

abbrev pub invariant-loop : goal.invariant-loop
invariant-loop l = AllNone l.seats.items × (length l.seats.items ≡ l.counter)
