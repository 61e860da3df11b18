-- What a seat is that puts back what an event wrote.
use Rattle.std.specs.Prelude.{◌≡◌, ℕ, ◌+◌, ◌<◌, true, None, Some, List, [], ◌∷◌}
use Rattle.hall_parts.specs.HallNames.{DequeId, LaneSlot, ListSlot, PoolSlot, SeatNote, Slot, HallKey, HallSeat, with_hand}
use Rattle.hall_slots.specs.declared.event.Event.TheVariants.{GaveUp}
use Rattle.hall_slots.specs.declared.slot.Slot.TheVariants as slots
use Rattle.hall_parts.specs.Writes.{Parts, parts, told_note, IsOwner, MayBecome, StaySound}
use Rattle.hall_parts.specs.declared.noting.Noting.{Noting}
use Rattle.hall_parts.specs.declared.noting.Noting.TheVariants.{Same, Found, Does, Yields, Leaves, Closes, Halts}

-- the note of a seat once it notes this
abbrev pub note_of : SeatNote → Noting → SeatNote
note_of note Same = note
note_of note (Found stop) = record note { found = Some stop }
note_of note (Does event owns) = told_note note owns event
note_of note (Yields deque) = record (told_note note None (GaveUp deque)) { yielded = true }
note_of note (Leaves deque) = record (told_note note None (GaveUp deque)) { yielded = true; left = true }
note_of note (Closes deque end) = record (told_note note None (GaveUp deque)) { yielded = true; answered = Some end }
note_of note (Halts stop end) = record note { found = Some stop; answered = Some end }

-- Once the seat notes this, these parts may become those, and stay sound.
pub record MayWrite (key : HallKey) (seat : HallSeat) (deque : DequeId) (was now : Parts) (note : SeatNote) : Type 0 where
  pub goes_on : MayBecome key seat deque was now note
  pub sound : StaySound key seat deque was now note

-- The seat holds its lane alone, and this lane may take its place, whichever list and pool there are.
pub record MayPutLane (key : HallKey) (seat : HallSeat) (deque : DequeId) (lane : LaneSlot) (note : SeatNote) : Type 0 where
  pub lane_was : LaneSlot
  pub holds : seat.hand.holds ≡ (deque.0 + 2, slots.Lane lane_was) ∷ []
  pub owner : IsOwner seat deque
  pub placed : 0 < note.places
  pub may : (list : ListSlot) (pool : PoolSlot) → MayWrite key seat deque (parts list pool lane_was) (parts list pool lane) note

-- It holds the pool and its lane, and these may take their places, whichever list there is.
pub record MayPutPoolAndLane (key : HallKey) (seat : HallSeat) (deque : DequeId) (pool : PoolSlot) (lane : LaneSlot) (note : SeatNote) : Type 0 where
  pub pool_was : PoolSlot
  pub lane_was : LaneSlot
  pub holds : seat.hand.holds ≡ (1, slots.Pool pool_was) ∷ (deque.0 + 2, slots.Lane lane_was) ∷ []
  pub owner : IsOwner seat deque
  pub placed : 0 < note.places
  pub may : (list : ListSlot) → MayWrite key seat deque (parts list pool_was lane_was) (parts list pool lane) note

-- the list and its lane, whichever pool there is
pub record MayPutListAndLane (key : HallKey) (seat : HallSeat) (deque : DequeId) (list : ListSlot) (lane : LaneSlot) (note : SeatNote) : Type 0 where
  pub list_was : ListSlot
  pub lane_was : LaneSlot
  pub holds : seat.hand.holds ≡ (0, slots.List list_was) ∷ (deque.0 + 2, slots.Lane lane_was) ∷ []
  pub owner : IsOwner seat deque
  pub placed : 0 < note.places
  pub may : (pool : PoolSlot) → MayWrite key seat deque (parts list_was pool lane_was) (parts list pool lane) note

-- all three
pub record MayPutAll (key : HallKey) (seat : HallSeat) (deque : DequeId) (list : ListSlot) (pool : PoolSlot) (lane : LaneSlot) (note : SeatNote)
    : Type 0 where
  pub list_was : ListSlot
  pub pool_was : PoolSlot
  pub lane_was : LaneSlot
  pub holds : seat.hand.holds ≡ (1, slots.Pool pool_was) ∷ (0, slots.List list_was) ∷ (deque.0 + 2, slots.Lane lane_was) ∷ []
  pub owner : IsOwner seat deque
  pub placed : 0 < note.places
  pub may : MayWrite key seat deque (parts list_was pool_was lane_was) (parts list pool lane) note

-- The seat notes this and holds these slots. All else of it is as it was.
abbrev pub HasPut : HallSeat → SeatNote → (holds : List (ℕ × Slot)) → HallSeat → Type 0
HasPut before note holds after =
    after ≡ with_hand before (record { seated = before.hand.seated; holds = holds; note = note; looks = before.hand.looks })
