-- How a seat leaves that owns no deque, and is joined into another.
use Rattle.std.specs.Prelude.{◌≡◌, ◌≢◌, ℕ, ◌+◌, ◌-◌, ◌<◌, true, false, min, Option, None, Some, [], ◌∷◌, ◌++◌}
use Rattle.deque_machine.specs.Lists.{Each}
use Rattle.play_rules.specs.declared.stop.Stop.{Stop}
use Rattle.play_rules.specs.declared.ends.RunEnd.{RunEnd}
use Rattle.turn_table.specs.declared.look.Look.TheVariants.{Took}
use Rattle.turn_table.specs.Hands.{noted, gave}
use Rattle.turn_table.specs.Seats.{with_hand}
use Rattle.turn_table.specs.Backs.{unchanged}
use Rattle.hall_machine.specs.Seats.{or_else}
use Rattle.hall_slots.specs.declared.key.HallKey.{HallKey}
use Rattle.hall_slots.specs.declared.list_slot.ListSlot.{ListSlot}
use Rattle.hall_slots.specs.declared.seat_note.SeatNote.{SeatNote}
use Rattle.hall_slots.specs.declared.slot.Slot.TheVariants as slots
use Rattle.hall_slots.specs.ListCalls.{end_kept, IsOutOf}
use Rattle.hall_slots.specs.Takes.{HallSeat}

-- the end that is kept where a seat leaves that found this stop, or none
abbrev pub end_left : Option RunEnd → Option Stop → Option RunEnd
end_left end None = end
end_left end (Some stop) = Some (end_kept end stop)

-- the note of a seat that has left
abbrev pub left_note : SeatNote → SeatNote
left_note note = record note { left = true }

-- A seat that is in, owns no deque, and by which nobody enters.
pub record IsIdle (seat : HallSeat) : Type 0 where
  pub placed : 0 < seat.hand.note.places
  pub stays : seat.hand.note.left ≡ false
  pub idle : seat.hand.note.deque ≡ None
  pub nobody : seat.hand.note.enters ≡ None

-- It may leave. Its worker is this one, and it found this stop or none.
pub record MayLeave (seat : HallSeat) (worker : ℕ) (found : Option Stop) : Type 0 where
  pub is_idle : IsIdle seat
  pub its_worker : seat.hand.note.worker ≡ worker
  pub its_stop : seat.hand.note.found ≡ found

-- The seat holds the list alone, and this list does not name its worker any more, whose no deque is. The stop that it found is kept there, or
-- the end that was kept before.
pub record HoldsTheLeft (seat : HallSeat) (list : ListSlot) : Type 0 where
  pub before : ListSlot
  pub holds : seat.hand.holds ≡ (0, slots.List before) ∷ []
  pub is_idle : IsIdle seat
  pub part : list.part ≡ before.part
  pub crew : IsOutOf seat.hand.note.worker before.crew.items list.crew.items
  pub end : list.end ≡ end_left before.end seat.hand.note.found
  pub unowned : Each (λ place. place.owner ≢ Some seat.hand.note.worker) before.part.order.places

abbrev pub PutsLeft : HallSeat → HallSeat → Type 0
PutsLeft before after = after ≡ with_hand before (gave (λ hand. left_note hand.note) unchanged before.hand 0)

-- It took the list, has left, and holds nothing.
abbrev pub HasLeft : HallSeat → HallSeat → Type 0
HasLeft before after = (list : ListSlot) × (after ≡ with_hand before (record {
  seated = before.hand.seated;
  holds = [];
  note = left_note before.hand.note;
  looks = before.hand.looks ++ Took 0 (slots.List list) ∷ [];
}))

-- a seat that has left, has its places still, and holds nothing
pub record HasGone (seat : HallSeat) : Type 0 where
  pub placed : 0 < seat.hand.note.places
  pub left : seat.hand.note.left ≡ true
  pub nobody : seat.hand.note.enters ≡ None
  pub free : seat.hand.holds ≡ []

-- How many places a seat has once another was joined into it, in a hall of so many workers: those of both. The places of all seats are those of the
-- workers, so both have no more than these.
abbrev pub places_with : (workers into gone : ℕ) → ℕ
places_with workers into gone = into + min gone (workers - into)

-- the note of a seat that another was joined into: it has the places of both, and has yielded if one of them had
abbrev pub with_places : (workers : ℕ) → SeatNote → SeatNote → SeatNote
with_places workers into gone =
    record into { places = places_with workers into.places gone.places; yielded = or_else into.yielded gone.yielded }

abbrev pub HasJoined : HallKey → HallSeat → SeatNote → HallSeat → Type 0
HasJoined key before gone after = after ≡ with_hand before (noted before.hand (with_places key.workers before.hand.note gone))
