-- A seat, as contracts see it.
use Rattle.std.specs.Prelude.{◌≡◌, ℕ, ◌<◌, true, List, map, Option, None}
use Rattle.atomic_table.specs.Seated.{TableId}
use Rattle.atomic_table.specs.declared.shared.Seat.{Seat}
use Rattle.turn_table.specs.declared.hand.Hand.{Hand}
use Rattle.turn_table.specs.declared.place.Place.{Place}
use Rattle.turn_table.specs.Hands.{times}

-- which table it is of, its number among the seats, the key of the law, and its hand
pub record SeatView (K V N : Type 0) : Type 0 where
  pub table : TableId
  pub number : ℕ
  pub key : Option K
  pub hand : Hand V N

-- the slots that are out with a seat, between calls
abbrev pub vacant : {V : Type 0} → List (ℕ × V) → List (ℕ × Option V)
vacant xs = map (λ x. (x.0, None)) xs

-- each of these slots is below n
abbrev pub Within : {V : Type 0} → ℕ → List (ℕ × V) → Type 0
Within n xs = (k : ℕ) → 0 < times k xs → k < n

module _ {K V N : Type 0} where
  -- the seat with another hand
  abbrev pub with_hand : SeatView K V N → Hand V N → SeatView K V N
  with_hand seat hand = record { table = seat.table; number = seat.number; key = seat.key; hand = hand }

  abbrev pub seat_view : Seat (Option V) (Place K V N) → SeatView K V N
  seat_view seat = record { table = seat.table_id; number = seat.id; key = seat.me.0.key; hand = seat.me.0.hand }

  -- between calls the slots that the hand holds are slots of the table, and are out with the seat, in this order, and empty
  abbrev pub IsInPlace : Seat (Option V) (Place K V N) → Type 0
  IsInPlace seat =
      (seat.me.1 ≡ vacant seat.me.0.hand.holds) × (seat.me.0.hand.seated ≡ true) × Within seat.table_id.slots seat.me.0.hand.holds
