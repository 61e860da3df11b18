-- Who moves, and whom a thief robs.
use Rattle.std.specs.Prelude.{◌≡◌, ℕ, ◌<◌, ◌⊎◌, Bool, true, Some, min, length, List, slice_get}
use Rattle.deque_list.specs.Deques.{Deque, IsReady}
use Rattle.open_periods.specs.declared.table.PeriodTable.{PeriodTable}
use Rattle.open_periods.specs.declared.seat.Seat.{Seat}
use Rattle.open_periods.specs.Tables.{seat_at}

-- the deque at a place has a thread to steal
abbrev pub IsReadyAt : {T : Type 0} → List (Deque T) → ℕ → Type 0
IsReadyAt {T} deques place = (deque : Deque T) × (slice_get deques place ≡ Some deque) × IsReady deque

-- how many deques are in reach of a thief
abbrev pub reach_of : {T : Type 0} → (workers : ℕ) → List (Deque T) → ℕ
reach_of workers deques = min workers (length deques)

-- some deque in reach has a thread to steal
abbrev pub SomeReady : {T : Type 0} → (workers : ℕ) → List (Deque T) → Type 0
SomeReady workers deques = (place : ℕ) × (place < reach_of workers deques) × IsReadyAt deques place

-- a worker can move: it is not idle, or some deque in reach has a thread to steal
abbrev pub CanMove : PeriodTable → (some_ready : Bool) → ℕ → Type 0
CanMove table some_ready worker = ((seat : Seat) × (seat_at table worker ≡ Some seat)) ⊎ (some_ready ≡ true)
