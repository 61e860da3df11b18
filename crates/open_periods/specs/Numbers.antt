-- The periods of closed books and of seats, and their numbers.
use Rattle.std.specs.Prelude.{◌≡◌, ℕ, suc, ◌≤◌, Option, None, Some, List, [], ◌∷◌, ◌++◌, map, slice_get}
use Rattle.space_ledger.specs.declared.book.Closed.{Closed}
use Rattle.open_periods.specs.Periods.{Period, closed_shown, open_shown}
use Rattle.open_periods.specs.declared.seat.Seat.{Seat}

-- the periods that are open, seat by seat; the worker of a seat is its place
abbrev pub period_of_seat : ℕ → Option Seat → List Period
period_of_seat worker None = []
period_of_seat worker (Some seat) = open_shown worker seat.period ∷ []

abbrev pub open_periods : ℕ → List (Option Seat) → List Period
open_periods worker [] = []
open_periods worker (seat ∷ seats) = period_of_seat worker seat ++ open_periods (suc worker) seats

-- all periods: the closed ones, and the open ones
abbrev pub all_periods : List Closed → List (Option Seat) → List Period
all_periods closed seats = map closed_shown closed ++ open_periods 0 seats

-- the numbers differ
abbrev pub NumbersDiffer : List Period → Type 0
NumbersDiffer periods =
    (i j : ℕ) (p q : Period) → slice_get periods i ≡ Some p → slice_get periods j ≡ Some q → p.number ≡ q.number → i ≡ j

-- and none is above that of the period that was begun last
abbrev pub NumbersWithin : List Period → ℕ → Type 0
NumbersWithin periods begun = (i : ℕ) (p : Period) → slice_get periods i ≡ Some p → p.number ≤ begun
