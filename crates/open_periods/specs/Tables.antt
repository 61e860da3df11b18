-- The periods of a table, and what it says of each worker.
use Rattle.std.specs.Prelude.{◌≡◌, ℕ, ◌≤◌, ◌+◌, Option, None, Some, List, [], ◌∷◌, ◌++◌, slice_get, slice_set}
use Rattle.containers.specs.BoundedList.{entries, spare}
use Rattle.dag_order.specs.declared.action_id.ActionId.{ActionId}
use Rattle.dag_order.specs.declared.birth.Birth.{Birth}
use Rattle.deque_list.specs.declared.deque_id.DequeId.{DequeId}
use Rattle.space_ledger.specs.BooksList.{books_list, books_spare}
use Rattle.space_ledger.specs.declared.book.Closed.{Closed}
use Rattle.open_periods.specs.declared.period.Period.{Period as OpenPeriod}
use Rattle.open_periods.specs.Periods.{Period, open_shown}
use Rattle.open_periods.specs.Numbers.{all_periods}
use Rattle.open_periods.specs.declared.seat.Seat.{Seat}
use Rattle.open_periods.specs.declared.table.PeriodTable.{PeriodTable}

-- all periods of a table
abbrev pub periods_of : PeriodTable → List Period
periods_of table = all_periods (books_list table.books) table.seats.items

-- what a worker has: its seat, or none; its deque; its period
abbrev pub seat_in : Option (Option Seat) → Option Seat
seat_in None = None
seat_in (Some seat) = seat

abbrev pub seat_at : PeriodTable → ℕ → Option Seat
seat_at table worker = seat_in (slice_get table.seats.items worker)

abbrev pub deque_of : Option Seat → Option DequeId
deque_of None = None
deque_of (Some seat) = Some seat.deque

abbrev pub deque_at : PeriodTable → ℕ → Option DequeId
deque_at table worker = deque_of (seat_at table worker)

abbrev pub shown_of : ℕ → Option Seat → Option Period
shown_of worker None = None
shown_of worker (Some seat) = Some (open_shown worker seat.period)

abbrev pub period_at : PeriodTable → ℕ → Option Period
period_at table worker = shown_of worker (seat_at table worker)

-- how many more births a period takes without memory, where a list for so many is ready for its first one
abbrev pub birth_room : List Birth → (own ready : ℕ) → ℕ
birth_room [] own ready = ready
birth_room (birth ∷ births) own ready = own

-- the period of a worker takes one action and one birth without memory, and can be closed without memory
abbrev pub HasRoomFor : (ready : ℕ) → Option Seat → Type 0
HasRoomFor ready None = ⊥
HasRoomFor ready (Some seat) =
    (1 ≤ spare seat.period.book) × (1 ≤ birth_room (entries seat.period.births) (spare seat.period.births) ready)

pub record HasRoom (table : PeriodTable) (worker : ℕ) : Type 0 where
  pub in_period : HasRoomFor (spare table.first_births) (seat_at table worker)
  pub in_books : 1 ≤ books_spare table.books

-- the births that come with an action: one, or none
abbrev pub births_shown : Option Birth → List Birth
births_shown None = []
births_shown (Some birth) = birth ∷ []

-- a period with one action more, which takes so many words of its quota
abbrev pub noted : Period → ActionId → (words : ℕ) → List Birth → Period
noted p id words births = record {
  number = p.number;
  ahead = p.ahead;
  owner = p.owner;
  used = p.used + words;
  ran = p.ran ++ id ∷ [];
  born = p.born ++ births;
}

-- the seat of a worker keeps its deque, its period is another one, and the other seats stay
pub record ChangesSeat (seats : List (Option Seat)) (worker : ℕ) (old : Seat) (change : Period → Period) (after : List (Option Seat)) : Type 0 where
  pub new : Seat
  pub are : after ≡ slice_set seats worker (Some new)
  pub deque : new.deque ≡ old.deque
  pub shown : (w : ℕ) → open_shown w new.period ≡ change (open_shown w old.period)

-- an open period as the closed one that it becomes
abbrev pub closed_of : OpenPeriod → Closed
closed_of p = record { number = p.number; ahead = p.ahead; book = p.book; births = p.births }

-- a period that is closed
abbrev pub shut : Period → Period
shut p = record { number = p.number; ahead = p.ahead; owner = None; used = 0; ran = p.ran; born = p.born }
