-- What clauses say of a row of turns.
use Rattle.std.specs.Prelude.{◌≡◌, ℕ, Some}
use Rattle.turn_table.specs.declared.turns.Turns.{Turns}
use Rattle.turn_table.specs.Seats.{SeatView}

module _ {V L K N : Type 0} where
  abbrev pub key_of : Turns V L K N → K
  key_of turns = turns.table.shared.key.key.value

  abbrev pub slot_count : Turns V L K N → ℕ
  slot_count turns = turns.table.shared.table_id.slots

  -- it is a seat of this table, and shows the same key
  abbrev pub IsSeatOf : Turns V L K N → SeatView K V N → Type 0
  IsSeatOf turns seat = (seat.table ≡ turns.table.shared.table_id) × (seat.key ≡ Some turns.table.shared.key.key.value)
