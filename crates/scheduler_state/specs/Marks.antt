-- How many periods are marked ahead.
use Rattle.std.specs.Prelude.{ℕ, Bool, false, cond, Option, None, Some, List}
use Rattle.open_periods.specs.Passed.Lists.{total}
use Rattle.open_periods.specs.declared.seat.Seat.{Seat}

-- whether the period of a seat is marked ahead
abbrev pub ahead_in : Option Seat → Bool
ahead_in None = false
ahead_in (Some seat) = seat.period.ahead

abbrev pub one_if_ahead : Option Seat → ℕ
one_if_ahead seat = cond (ahead_in seat) 1 0

-- how many open periods are
abbrev pub open_ahead : List (Option Seat) → ℕ
open_ahead seats = total one_if_ahead seats
