-- What a seat is after it drew a count.
use Rattle.std.specs.Prelude.{◌≡◌, ℕ, ◌<◌, ◌≤◌, true, false, cond, nat_lt, None, Some, [], ◌∷◌, ◌++◌}
use Rattle.deque_list.specs.declared.deque_id.DequeId.{DequeId}
use Rattle.play_rules.specs.declared.stop.Stop.{Stop}
use Rattle.play_rules.specs.declared.stop.Stop.TheVariants.{StepsSpent}
use Rattle.turn_table.specs.declared.look.Look.{Look}
use Rattle.turn_table.specs.declared.look.Look.TheVariants.{Took, Refused, Counted}
use Rattle.turn_table.specs.Seats.{with_hand}
use Rattle.hall_slots.specs.declared.seat_note.SeatNote.{SeatNote}
use Rattle.hall_slots.specs.declared.slot.Slot.{Slot}
use Rattle.hall_slots.specs.Takes.{HallSeat}

-- the note of a seat that holds a count, and of one that found that the steps are spent
abbrev pub counting_note : SeatNote → SeatNote
counting_note note = record note { counting = true }

abbrev pub spent_note : (limit : ℕ) → SeatNote → SeatNote
spent_note limit note = record note { found = Some (StepsSpent limit) }

-- the note of a seat that drew this number
abbrev pub drew : (limit : ℕ) → SeatNote → ℕ → SeatNote
drew limit note found = cond (nat_lt found limit) (counting_note note) (spent_note limit note)

-- that had this answer
abbrev pub drew_by : (limit : ℕ) → SeatNote → Look Slot → SeatNote
drew_by limit note (Took slot value) = note
drew_by limit note (Refused slot seen) = note
drew_by limit note (Counted found) = drew limit note found

-- A seat that may draw a count: it is in and owns a deque, holds no count, and has found no stop.
pub record MayDraw (seat : HallSeat) : Type 0 where
  pub placed : 0 < seat.hand.note.places
  pub stays : seat.hand.note.left ≡ false
  pub owns : (id : DequeId) × (seat.hand.note.deque ≡ Some id)
  pub free : seat.hand.note.counting ≡ false
  pub none : seat.hand.note.found ≡ None

-- it was answered this number, and notes this
abbrev pub Draws : HallSeat → (found : ℕ) → SeatNote → HallSeat → Type 0
Draws before found note after = after ≡ with_hand before (record {
  seated = before.hand.seated;
  holds = before.hand.holds;
  note = note;
  looks = before.hand.looks ++ Counted found ∷ [];
})

-- a count below the limit, which the seat holds from now on; or one at the limit or above it, and this stop
abbrev pub HasCounted : (limit : ℕ) → HallSeat → HallSeat → Type 0
HasCounted limit before after = (found : ℕ) × (found < limit) × Draws before found (counting_note before.hand.note) after

abbrev pub HasFoundSpent : (limit : ℕ) → HallSeat → Stop → HallSeat → Type 0
HasFoundSpent limit before stop after =
    (found : ℕ) × (limit ≤ found) × (stop ≡ StepsSpent limit) × Draws before found (spent_note limit before.hand.note) after
