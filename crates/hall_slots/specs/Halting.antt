-- What a seat is that has kept the stop which it found.
use Rattle.std.specs.Prelude.{◌≡◌, ◌<◌, false, Option, None, Some, List, [], ◌∷◌, ◌++◌}
use Rattle.play_rules.specs.declared.stop.Stop.{Stop}
use Rattle.play_rules.specs.declared.ends.RunEnd.{RunEnd}
use Rattle.turn_table.specs.declared.look.Look.TheVariants.{Took}
use Rattle.turn_table.specs.Hands.{gave}
use Rattle.turn_table.specs.Seats.{with_hand}
use Rattle.turn_table.specs.Backs.{unchanged}
use Rattle.hall_slots.specs.declared.event.Event.{Event}
use Rattle.hall_slots.specs.declared.event.Event.TheVariants.{Halted}
use Rattle.hall_slots.specs.declared.list_slot.ListSlot.{ListSlot}
use Rattle.hall_slots.specs.declared.seat_note.SeatNote.{SeatNote}
use Rattle.hall_slots.specs.declared.slot.Slot.{Slot}
use Rattle.hall_slots.specs.declared.slot.Slot.TheVariants as slots
use Rattle.hall_slots.specs.ListCalls.{end_kept}
use Rattle.hall_slots.specs.Takes.{HallSeat}

-- a seat that has a place and has not left
pub record IsInHall (seat : HallSeat) : Type 0 where
  pub placed : 0 < seat.hand.note.places
  pub stays : seat.hand.note.left ≡ false

-- the event of a seat that is answered the kept end, and its note then
abbrev pub halts_with : Option RunEnd → List Event
halts_with None = []
halts_with (Some end) = Halted end ∷ []

abbrev pub halted_note : SeatNote → Option RunEnd → SeatNote
halted_note note end = record note { answered = end; mine = note.mine ++ halts_with end }

-- the end that is kept in a slot
abbrev pub end_in : Slot → Option RunEnd
end_in (slots.List list) = list.end
end_in (slots.Pool pool) = None
end_in (slots.Lane lane) = None

-- The seat holds the list alone, and this is that list with the stop that it found, or the end that was kept before.
pub record HoldsTheKept (seat : HallSeat) (list : ListSlot) : Type 0 where
  pub before : ListSlot
  pub stop : Stop
  pub holds : seat.hand.holds ≡ (0, slots.List before) ∷ []
  pub found : seat.hand.note.found ≡ Some stop
  pub is : list ≡ record before { end = Some (end_kept before.end stop) }

abbrev pub PutsHalted : HallSeat → ListSlot → HallSeat → Type 0
PutsHalted before list after = after ≡ with_hand before (gave (λ hand. halted_note hand.note list.end) unchanged before.hand 0)

-- It took the list, and the end that is kept there now is the stop, or the end that was kept before. It was answered this end, and holds
-- nothing.
pub record HasHalted (before : HallSeat) (stop : Stop) (end : RunEnd) (after : HallSeat) : Type 0 where
  pub list : ListSlot
  pub end_is : end ≡ end_kept list.end stop
  pub after_is : after ≡ with_hand before (record {
    seated = before.hand.seated;
    holds = [];
    note = halted_note before.hand.note (Some end);
    looks = before.hand.looks ++ Took 0 (slots.List list) ∷ [];
  })
