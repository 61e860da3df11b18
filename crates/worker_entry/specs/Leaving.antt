-- What a give up and a leave answer of a seat.
use Rattle.std.specs.Prelude.{◌≡◌, ◌≢◌, ◌⊎◌, None, Some, Result, Ok, Err}
use Rattle.dag_order.specs.declared.finish.Finish.{Finish}
use Rattle.deque_list.specs.declared.deque_id.DequeId.{DequeId}
use Rattle.play_rules.specs.declared.ends.RunEnd.{RunEnd}
use Rattle.play_rules.specs.declared.ends.RunEnd.TheVariants.{Finished}
use Rattle.play_rules.specs.declared.stop.Stop.TheVariants as stops
use Rattle.turn_table.specs.declared.held.Held.{Held}
use Rattle.turn_table.specs.Tables.{key_of}
use Rattle.hall_slots.specs.Leaving.{places_with, HasJoined}
use Rattle.hall_slots.specs.Halting.{HasHalted}
use Rattle.hall_slots.specs.Takes.{HallSeat, IsRefused}
use Rattle.hall_slots.specs.declared.event.Event.{Event}
use Rattle.hall_slots.specs.declared.event.Event.TheVariants.{GaveUp}
use Rattle.hall_slots.specs.declared.list_slot.ListSlot.{ListSlot}
use Rattle.hall_slots.specs.declared.seat_note.SeatNote.{SeatNote}
use Rattle.hall_owner.specs.Yielding.{halting_note, leaving_note, stop_then, yielded_note, GivesUp, HasTakenBoth, IsBusy}
use Rattle.hall_owner.specs.Passed.ActRefusedVariants as failed
use Rattle.worker_entry.specs.declared.hall.Hall.{Hall}
use Rattle.worker_entry.specs.declared.seat.Seat.{Seat}
use Rattle.worker_entry.specs.declared.refused.EventRefused.{EventRefused}
use Rattle.worker_entry.specs.declared.refused.EventRefused.TheVariants as events
use Rattle.worker_entry.specs.declared.refused.LeaveRefused.{LeaveRefused}
use Rattle.worker_entry.specs.declared.refused.LeaveRefused.TheVariants.{Busy, OutOfMemory}
use Rattle.worker_entry.specs.Seated.{SameSeat}

-- The seat took its lane and this list, and has given this deque up, with which it has yielded. It was not answered that the run has finished.
pub record HasGivenUp (before : Seat) (deque : DequeId) (after : Seat) : Type 0 where
  pub owned : before.owned ≡ Some deque
  pub list : ListSlot
  pub leaves : HasTakenBoth before.place deque list (yielded_note before.place.hand.note deque) after.place
  pub worker : after.worker ≡ before.worker
  pub places : after.places ≡ before.places
  pub idle : after.owned ≡ None
  pub stop : after.stop ≡ before.stop
  pub unfinished : (finish : Finish) → before.place.hand.note.answered ≢ Some (Finished finish)

-- So it is with a seat that owned a deque, where no end was kept; or it was refused, and is what it was. A seat that had found a stop is what it
-- was; one that finds that memory is wanting says so from then on.
abbrev pub GivesUpIn : Seat → Seat → Result Event EventRefused → Type 0
GivesUpIn before after (Ok event) = (before.stop ≡ None)
    × (deque : DequeId) × (event ≡ GaveUp deque) × (gave : HasGivenUp before deque after) × (HasGivenUp.list gave).end ≡ None
GivesUpIn before after (Err (events.Busy held)) = (before.stop ≡ None)
    × (deque : DequeId) × (before.owned ≡ Some deque) × GivesUp before.place deque (Err (failed.Busy held)) after.place × SameSeat before after
GivesUpIn before after (Err events.Nothing) = ⊥
GivesUpIn before after (Err (events.Over end)) = (before.stop ≡ None)
    × (deque : DequeId) × (before.owned ≡ Some deque) × GivesUp before.place deque (Err (failed.Over end)) after.place × SameSeat before after
GivesUpIn before after (Err (events.Stopped stop)) = ((before.stop ≡ Some stop) × (after ≡ before))
    ⊎ ((before.stop ≡ None)
    × (deque : DequeId) × (before.owned ≡ Some deque) × GivesUp before.place deque (Err (failed.Stopped stop)) after.place
    × (after.worker ≡ before.worker) × (after.places ≡ before.places) × (after.owned ≡ before.owned) × (after.stop ≡ Some stop))

-- The seat owns this deque and was refused its lane, or the list once it had its lane. It is what it was.
pub record IsHeldUp (before : Seat) (held : Held) (after : Seat) : Type 0 where
  pub calm : before.stop ≢ Some stops.OutOfMemory
  pub deque : DequeId
  pub owned : before.owned ≡ Some deque
  pub busy : IsBusy before.place deque held after.place
  pub same : SameSeat before after

-- It took its lane and this list, and there was not enough memory to close the period of its deque. This is the stop that it finds, if it had
-- found none. By the same put back the list keeps its stop, or the end that it kept before, and the seat was answered the end that is kept.
pub record RunsShort (before after : Seat) : Type 0 where
  pub calm : before.stop ≢ Some stops.OutOfMemory
  pub deque : DequeId
  pub owned : before.owned ≡ Some deque
  pub list : ListSlot
  pub leaves : HasTakenBoth before.place deque list (halting_note before.place.hand.note list) after.place
  pub worker : after.worker ≡ before.worker
  pub places : after.places ≡ before.places
  pub still : after.owned ≡ before.owned
  pub stop : after.stop ≡ Some (stop_then before.stop)

-- A seat that had found lack of memory keeps this in the list, as a seat does that halts. It says the same of itself.
abbrev pub IsHalted : Seat → Seat → Type 0
IsHalted before after = (before.stop ≡ Some stops.OutOfMemory)
    × (end : RunEnd) × HasHalted before.place stops.OutOfMemory end after.place × SameSeat before after

-- memory is lacking now to give its deque up, or the seat had found this before; and the list keeps its stop, unless an end was kept
abbrev pub IsShort : Seat → Seat → Type 0
IsShort before after = IsHalted before after ⊎ RunsShort before after

-- The seat took its lane and this list, has given this deque up, with which it has yielded, and has left, by one put back. It was not answered that
-- the run has finished.
pub record HasLeftWith (before : Seat) (deque : DequeId) (gone : HallSeat) : Type 0 where
  pub owned : before.owned ≡ Some deque
  pub list : ListSlot
  pub leaves : HasTakenBoth before.place deque list (leaving_note before.place.hand.note deque) gone
  pub unfinished : (finish : Finish) → before.place.hand.note.answered ≢ Some (Finished finish)

-- how it is with a seat that owned a deque, before its places are joined into another
abbrev pub LeavesOwner : Seat → Result (Unit {0}) LeaveRefused → Seat → Type 0
LeavesOwner before (Ok done) after = (after.places ≡ before.places) × (deque : DequeId) × HasLeftWith before deque after.place
LeavesOwner before (Err (Busy held)) after = IsHeldUp before held after
LeavesOwner before (Err OutOfMemory) after = RunsShort before after

-- The places of another seat, which notes this, are there besides its own. (The places of all seats are those of the workers, so both have no more
-- than these.)
pub record HasPlacesOf (hall : Hall) (seat : Seat) (note : SeatNote) (before after : Seat) : Type 0 where
  pub joined : HasJoined (key_of hall.row) before.place note after.place
  pub worker : after.worker ≡ before.worker
  pub places : after.places ≡ places_with hall.workers before.places seat.places
  pub owned : after.owned ≡ before.owned
  pub stop : after.stop ≡ before.stop

-- the seat was refused the list, and is what it was
abbrev pub IsRefusedList : Seat → Held → Seat → Type 0
IsRefusedList seat held back = IsRefused seat.place 0 held back.place × SameSeat seat back

-- How it is with a seat that owns no deque and left into another: this has its places besides its own; or it was refused the list, and both are
-- what they were.
abbrev pub LeavesIdle : Hall → Seat → Seat → Seat → Result (Unit {0}) (Seat × LeaveRefused) → Type 0
LeavesIdle hall seat before after (Ok done) = HasPlacesOf hall seat seat.place.hand.note before after
LeavesIdle hall seat before after (Err (back, Busy held)) = IsRefusedList seat held back × (after ≡ before)
LeavesIdle hall seat before after (Err (back, OutOfMemory)) = ⊥

-- The list keeps the lack of memory that a seat has found, unless an end was kept before; or the seat was refused the list.
abbrev pub KeepsItsStop : Seat → Seat × LeaveRefused → Type 0
KeepsItsStop seat (back, Busy held) = IsRefusedList seat held back
KeepsItsStop seat (back, OutOfMemory) = IsHalted seat back

-- A slot was refused to a seat that leaves, and it is what it was: its lane or the list, if it owns a deque and is to give it up; else the list, which
-- it needs alone. So the moment of the hall is what it was.
abbrev pub IsBusyLeaving : Seat → Held → Seat → Type 0
IsBusyLeaving seat held back = IsHeldUp seat held back
    ⊎ (((seat.owned ≡ None) ⊎ (seat.stop ≡ Some stops.OutOfMemory)) × IsRefusedList seat held back)

-- How it is with a seat that left into another, with the deque that it owned, if it owned one: the other has its places besides its own. Or it was
-- refused a slot; or memory is wanting to give its deque up, and the list keeps its stop, unless an end was kept before. Then the other is what
-- it was.
abbrev pub LeavesHall : Hall → Seat → Seat → Seat → Result (Unit {0}) (Seat × LeaveRefused) → Type 0
LeavesHall hall seat before after (Ok done) = ((seat.owned ≡ None) × HasPlacesOf hall seat seat.place.hand.note before after)
    ⊎ ((deque : DequeId) × (gone : HallSeat) × HasLeftWith seat deque gone × HasPlacesOf hall seat gone.hand.note before after)
LeavesHall hall seat before after (Err (back, Busy held)) = (after ≡ before) × IsBusyLeaving seat held back
LeavesHall hall seat before after (Err (back, OutOfMemory)) = (after ≡ before) × IsShort seat back
