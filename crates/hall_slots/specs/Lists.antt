-- What a seat does with the list that it took: it puts it back with what it showed, or it is answered the end that is kept there.
use Rattle.std.specs.Prelude.{◌≡◌, Some, [], ◌∷◌}
use Rattle.play_rules.specs.declared.ends.RunEnd.{RunEnd}
use Rattle.turn_table.specs.Hands.{took, gave}
use Rattle.turn_table.specs.Seats.{with_hand}
use Rattle.turn_table.specs.Backs.{kept, unchanged}
use Rattle.hall_slots.specs.declared.list_slot.ListSlot.{ListSlot}
use Rattle.hall_slots.specs.declared.seat_note.SeatNote.{SeatNote}
use Rattle.hall_slots.specs.declared.slot.Slot.TheVariants as slots
use Rattle.hall_slots.specs.Takes.{HallSeat, IsGiven}

-- the note of a seat that was answered an end
abbrev pub answered_note : SeatNote → ListSlot → SeatNote
answered_note note list = record note { answered = list.end }

-- The seat holds the list alone, and this list shows the same, perhaps with other room;
pub record HoldsTheSame (seat : HallSeat) (list : ListSlot) : Type 0 where
  pub before : ListSlot
  pub holds : seat.hand.holds ≡ (0, slots.List before) ∷ []
  pub part : list.part ≡ before.part
  pub crew : list.crew.items ≡ before.crew.items
  pub end : list.end ≡ before.end

-- or it is this list, in which an end is kept
pub record HoldsTheEnd (seat : HallSeat) (list : ListSlot) : Type 0 where
  pub holds : seat.hand.holds ≡ (0, slots.List list) ∷ []
  pub some : (end : RunEnd) × (list.end ≡ Some end)

-- what the seat is after it put the list back
abbrev pub PutsSame : HallSeat → HallSeat → Type 0
PutsSame before after = IsGiven before 0 after

abbrev pub PutsAnswered : HallSeat → ListSlot → HallSeat → Type 0
PutsAnswered before list after = after ≡ with_hand before (gave (λ hand. answered_note hand.note list) unchanged before.hand 0)

-- a seat that held the list alone holds nothing, and notes this
abbrev pub Leaves : HallSeat → SeatNote → HallSeat → Type 0
Leaves before note after =
    after ≡ with_hand before (record { seated = before.hand.seated; holds = []; note = note; looks = before.hand.looks })

-- the seat after it took the list
abbrev pub with_list : HallSeat → ListSlot → HallSeat
with_list seat list = with_hand seat (took kept seat.hand 0 (slots.List list))
