-- What a seat is after it took a slot, was refused one, or put one back.
use Rattle.std.specs.Prelude.{◌≡◌, ℕ, ◌<◌, false, None}
use Rattle.turn_table.specs.declared.held.Held.{Held}
use Rattle.turn_table.specs.Hands.{took, refused, gave}
use Rattle.turn_table.specs.Seats.{SeatView, with_hand}
use Rattle.turn_table.specs.Law.{Meets}
use Rattle.turn_table.specs.Backs.{kept, still, unchanged}
use Rattle.turn_table.specs.Places.{WithPlaces}
use Rattle.hall_slots.specs.declared.slot.Slot.{Slot}
use Rattle.hall_slots.specs.declared.seat_note.SeatNote.{SeatNote}
use Rattle.hall_slots.specs.declared.key.HallKey.{HallKey}
use Rattle.hall_slots.specs.Law.{HallHolds, places_of, joined_note}

-- a seat of a hall, as contracts see it
abbrev pub HallSeat : Type 0
HallSeat = SeatView HallKey Slot SeatNote

-- some state of the slots meets the law with this seat as it is
abbrev pub MeetsLaw : HallKey → HallSeat → Type 0
MeetsLaw key seat = Meets (WithPlaces places_of HallHolds) joined_note key seat

-- it has a place
abbrev pub IsPlaced : HallSeat → Type 0
IsPlaced seat = 0 < seat.hand.note.places

-- It has the places of all workers, so that it is the only one. (It has not left, and nobody enters by it.)
pub record HasAllPlaces (key : HallKey) (seat : HallSeat) : Type 0 where
  pub all : seat.hand.note.places ≡ key.workers
  pub stays : seat.hand.note.left ≡ false
  pub alone : seat.hand.note.enters ≡ None

-- it took a slot, which held this
abbrev pub IsTaken : HallSeat → (slot : ℕ) → Slot → HallSeat → Type 0
IsTaken before slot found after = after ≡ with_hand before (took kept before.hand slot found)

-- and then another one
abbrev pub AreTaken : HallSeat → (first : ℕ) → Slot → (second : ℕ) → Slot → HallSeat → Type 0
AreTaken before first one second two after =
    after ≡ with_hand before (took kept (took kept before.hand first one) second two)

-- it was refused a slot
abbrev pub IsRefused : HallSeat → (slot : ℕ) → Held → HallSeat → Type 0
IsRefused before slot held after = (held.slot ≡ slot) × (after ≡ with_hand before (refused kept before.hand slot held.seen))

-- it put a slot back as it was
abbrev pub IsGiven : HallSeat → (slot : ℕ) → HallSeat → Type 0
IsGiven before slot after = after ≡ with_hand before (gave still unchanged before.hand slot)
