use Rattle.std.proofs.Common.{◌≡◌, ◌+◌, ◌≤◌, drop}
use Rattle.scheduler_state.specs.Marks.{open_ahead}
use Rattle.scheduler_state.proofs.marks.open_ahead.Given as goal

-- with those of the seats that are left these are all
abbrev pub invariant-seats : goal.invariant-seats
invariant-seats l =
    (l.ahead ≤ l.worker) × (l.ahead + open_ahead (drop l.worker l.table.seats.items) ≡ open_ahead l.table.seats.items)
