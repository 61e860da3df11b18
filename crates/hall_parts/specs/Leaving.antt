-- What a seat writes that leaves, that is answered an end, or that keeps its stop.
use Rattle.std.specs.Prelude.{◌≡◌, ◌≢◌, ◌⊎◌, ℕ, ◌≤◌, ◌<◌, false, Option, None, Some}
use Rattle.hall_parts.specs.HallNames.{DequeId, HallKey, ListSlot, SeatNote, quota_of, HallSeat}
use Rattle.hall_slots.specs.Leaving.{end_left}
use Rattle.hall_slots.specs.ListCalls.{end_kept, IsOutOf}
use Rattle.hall_slots.specs.Passed.DepthFirstListActions.{record_words}
use Rattle.play_rules.specs.declared.ends.RunEnd.{RunEnd}
use Rattle.play_rules.specs.declared.stop.Stop.{Stop}
use Rattle.play_rules.specs.declared.stop.Stop.TheVariants.{OutOfMemory}
use Rattle.hall_parts.specs.EventParts.{MayPause}
use Rattle.hall_parts.specs.Puts.{note_of, MayWrite}
use Rattle.hall_parts.specs.Writes.{Parts, parts, MayBecome, StaySound}
use Rattle.hall_parts.specs.Writing.{DoesEvent}
use Rattle.hall_parts.specs.declared.noting.Noting.TheVariants.{Yields, Leaves}

-- The list names the worker no more. The stop that its seat found is kept there, or the end that was kept before.
pub record IsLeft (worker : ℕ) (found : Option Stop) (given now : ListSlot) : Type 0 where
  pub part : now.part ≡ given.part
  pub crew : IsOutOf worker given.crew.items now.crew.items
  pub end : now.end ≡ end_left given.end found

-- An owner that could give its deque up may leave with it, in the same put back. It has not found a lack of memory, and nobody enters by it.
abbrev pub OwnersMayLeave : Type 0
OwnersMayLeave = (key : HallKey) (seat : HallSeat) (deque : DequeId) (was given : Parts) (list : ListSlot) → record_words ≤ quota_of key
    → MayPause seat deque → seat.hand.note.enters ≡ None → seat.hand.note.found ≢ Some OutOfMemory
    → IsLeft seat.hand.note.worker seat.hand.note.found given.list list → DoesEvent key seat.hand.note.worker deque was given (Yields deque)
    → StaySound key seat deque was given (note_of seat.hand.note (Yields deque))
    → MayWrite key seat deque was (parts list given.pool given.lane) (note_of seat.hand.note (Leaves deque))

-- A seat that may write may be answered the end that is kept then.
abbrev pub WritersMayBeAnswered : Type 0
WritersMayBeAnswered = (key : HallKey) (seat : HallSeat) (deque : DequeId) (was now : Parts) (note : SeatNote) (end : RunEnd) → 0 < note.places
    → now.list.end ≡ Some end → MayWrite key seat deque was now note → MayWrite key seat deque was now (record note { answered = Some end })

-- the parts with this end in the list
abbrev pub with_end : Parts → RunEnd → Parts
with_end was end = record was { list = record was.list { end = Some end } }

-- An owner may keep the stop that it had found, or lack of memory if it had found none, unless an end is kept.
abbrev pub StopsMayBeKept : Type 0
StopsMayBeKept = (key : HallKey) (seat : HallSeat) (deque : DequeId) (was : Parts) (stop : Stop) → MayPause seat deque
    → (seat.hand.note.found ≡ Some stop) ⊎ ((seat.hand.note.found ≡ None) × (stop ≡ OutOfMemory))
    → MayBecome key seat deque was (with_end was (end_kept was.list.end stop)) (record seat.hand.note { found = Some stop })
