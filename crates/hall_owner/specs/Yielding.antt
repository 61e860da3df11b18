-- How an owner gives its deque up though nothing asks for it.
use Rattle.std.specs.Prelude.{◌≡◌, ◌≢◌, ◌⊎◌, ℕ, ◌+◌, ◌≤◌, true, Option, None, Some, List, [], ◌∷◌, ◌++◌, Result, Ok, Err}
use Rattle.hall_actions.specs.Passed.HallNames.{DequeId, HallSeat, MeetsLaw, HallKey, LaneSlot, Running, ListSlot, SeatNote, Slot}
use Rattle.play_rules.specs.declared.ends.RunEnd.{RunEnd}
use Rattle.play_rules.specs.declared.stop.Stop.{Stop}
use Rattle.play_rules.specs.declared.stop.Stop.TheVariants as stops
use Rattle.space_ledger.specs.BooksList.{books_spare}
use Rattle.turn_table.specs.declared.held.Held.{Held}
use Rattle.turn_table.specs.declared.look.Look.{Look}
use Rattle.turn_table.specs.declared.look.Look.TheVariants.{Took, Refused}
use Rattle.hall_actions.specs.Passed.EventParts.{MayPause}
use Rattle.hall_actions.specs.Passed.Puts.{note_of, MayPutListAndLane}
use Rattle.hall_actions.specs.Passed.Writes.{told_note, Parts}
use Rattle.hall_actions.specs.Returning.{MayNote}
use Rattle.hall_actions.specs.Passed.Taken.{list_and_lane}
use Rattle.hall_actions.specs.Passed.Noting.{Noting}
use Rattle.hall_actions.specs.Passed.Rooms.{HasMoreBooks}
use Rattle.hall_actions.specs.Passed.NotingVariants.{Same, Found}
use Rattle.hall_slots.specs.ListCalls.{end_kept, ShowsUnowned, HasNoOwner, KeepsRest}
use Rattle.hall_slots.specs.Lists.{answered_note}
use Rattle.hall_slots.specs.declared.event.Event.TheVariants.{GaveUp}
use Rattle.hall_slots.specs.declared.slot.Slot.TheVariants as slots
use Rattle.hall_actions.specs.Advancing.{HasLooked, took_lane}
use Rattle.hall_owner.specs.Holding.{found_note}
use Rattle.hall_actions.specs.declared.refused.ActRefused.{ActRefused}
use Rattle.hall_actions.specs.declared.refused.ActRefused.TheVariants as failed
use Rattle.hall_owner.specs.declared.leaving.LastRefused.{LastRefused}
use Rattle.hall_owner.specs.declared.leaving.LastRefused.TheVariants as last
use Rattle.hall_owner.specs.declared.leaving.YieldRefused.{YieldRefused}
use Rattle.hall_owner.specs.declared.leaving.YieldRefused.TheVariants.{Busy, OutOfMemory}

-- The seat is in, owns the deque, and holds nothing and no count. It has not found that memory was wanting: then its top thread may be short of
-- its point, and nobody may run it again.
pub record MayYield (seat : HallSeat) (deque : DequeId) : Type 0 where
  pub may : MayPause seat deque
  pub calm : seat.hand.note.found ≢ Some stops.OutOfMemory
  pub free : seat.hand.holds ≡ []

-- such a seat holds its lane and the list, and meets the law
pub record HasBoth (key : HallKey) (seat : HallSeat) (deque : DequeId) (list : ListSlot) (lane : LaneSlot) : Type 0 where
  pub may : MayPause seat deque
  pub calm : seat.hand.note.found ≢ Some stops.OutOfMemory
  pub holds : seat.hand.holds ≡ list_and_lane deque list lane
  pub meets : MeetsLaw key seat

-- the note of a seat that has given this deque up
abbrev pub yielded_note : SeatNote → DequeId → SeatNote
yielded_note note deque = record (told_note note None (GaveUp deque)) { yielded = true }

-- of one that left with it, and of one that gave it up as its hall is closed, and was answered this end, which is kept
abbrev pub leaving_note : SeatNote → DequeId → SeatNote
leaving_note note deque = record (yielded_note note deque) { left = true }

abbrev pub closing_note : SeatNote → DequeId → RunEnd → SeatNote
closing_note note deque end = record (yielded_note note deque) { answered = Some end }

-- the stop of a seat that is refused memory: the one that it had found, and else this
abbrev pub stop_then : Option Stop → Stop
stop_then None = stops.OutOfMemory
stop_then (Some stop) = stop

-- what it notes then, and its note
abbrev pub noting_then : Option Stop → Noting
noting_then None = Found stops.OutOfMemory
noting_then (Some stop) = Same

abbrev pub short_note : SeatNote → SeatNote
short_note note = found_note note (stop_then note.found)

-- its note if the list keeps this stop then, or the end that it kept before, and the seat is answered the end that is kept
abbrev pub halting_note : SeatNote → ListSlot → SeatNote
halting_note note list = record (short_note note) { answered = Some (end_kept list.end (stop_then note.found)) }

-- The deque was given up in this list and this lane: there is room to close its period, which is closed now, and the deque has no owner.
pub record IsGivenUp (deque : DequeId) (list_was : ListSlot) (lane_was : LaneSlot) (list : ListSlot) (lane : LaneSlot) : Type 0 where
  pub roomy : ListSlot
  pub more : HasMoreBooks list_was roomy
  pub room : 1 ≤ books_spare roomy.part.books
  pub running : Running
  pub its_period : lane_was.running ≡ Some running
  pub shown : ShowsUnowned roomy list deque running
  pub places : HasNoOwner deque roomy.part.order.places list.part.order.places
  pub rest : KeepsRest roomy list
  pub lane_is : lane ≡ record { lane = lane_was.lane; running = None }

-- The seat may note this once its deque is given up so, and the other where memory is wanting.
pub record MayNoteBoth (key : HallKey) (seat : HallSeat) (deque : DequeId) (list : ListSlot) (lane : LaneSlot) (noting short : Noting) : Type 0 where
  pub gives : (given : ListSlot) (left : LaneSlot) → IsGivenUp deque list lane given left
      → MayPutListAndLane key seat deque given left (note_of seat.hand.note noting)
  pub wants : (was : Parts) → MayNote key seat deque was short

-- It took its lane, and then the list, which was this. It holds nothing, and notes this.
abbrev pub HasTakenBoth : HallSeat → DequeId → ListSlot → SeatNote → HallSeat → Type 0
HasTakenBoth before deque list note after =
    (lane : LaneSlot) × HasLooked before (took_lane deque lane ∷ Took 0 (slots.List list) ∷ []) note after

-- which slot is refused to it, and what it took before: its lane, and nothing; or the list, and its lane
abbrev pub IsOneOfBoth : DequeId → (slot : ℕ) → List (Look Slot) → Type 0
IsOneOfBoth deque slot more =
    ((slot ≡ deque.0 + 2) × (more ≡ [])) ⊎ ((slot ≡ 0) × (lane : LaneSlot) × (more ≡ took_lane deque lane ∷ []))

-- It was refused one of them, and is what it was but for its answers.
abbrev pub IsBusy : HallSeat → DequeId → Held → HallSeat → Type 0
IsBusy before deque held after = (more : List (Look Slot))
    × HasLooked before (more ++ Refused held.slot held.seen ∷ []) before.hand.note after × IsOneOfBoth deque held.slot more

-- It has left with the deque, whether or not an end is kept; or a slot was refused to it; or memory was, and the list keeps its stop, unless an end
-- was kept before.
abbrev pub LeavesWith : HallSeat → DequeId → Result (Unit {0}) YieldRefused → HallSeat → Type 0
LeavesWith before deque (Ok done) after = (list : ListSlot) × HasTakenBoth before deque list (leaving_note before.hand.note deque) after
LeavesWith before deque (Err (Busy held)) after = IsBusy before deque held after
LeavesWith before deque (Err OutOfMemory) after = (list : ListSlot) × HasTakenBoth before deque list (halting_note before.hand.note list) after

-- It has given the deque up where this end is kept; or a slot was refused to it; or no end is kept; or one is, and memory was refused to it.
abbrev pub ClosesWith : HallSeat → DequeId → Result RunEnd LastRefused → HallSeat → Type 0
ClosesWith before deque (Ok end) after =
    (list : ListSlot) × (list.end ≡ Some end) × HasTakenBoth before deque list (closing_note before.hand.note deque end) after
ClosesWith before deque (Err (last.Busy held)) after = IsBusy before deque held after
ClosesWith before deque (Err last.NotOver) after = (list : ListSlot) × (list.end ≡ None) × HasTakenBoth before deque list before.hand.note after
ClosesWith before deque (Err last.OutOfMemory) after =
    (list : ListSlot) × (end : RunEnd) × (list.end ≡ Some end) × HasTakenBoth before deque list (short_note before.hand.note) after

-- an end may be kept where it is refused so
abbrev pub MayBeOver : LastRefused → Type 0
MayBeOver (last.Busy held) = Unit {0}
MayBeOver last.NotOver = ⊥
MayBeOver last.OutOfMemory = Unit {0}

abbrev pub IsNotHeld : Result RunEnd LastRefused → Type 0
IsNotHeld (Ok end) = Unit {0}
IsNotHeld (Err (last.Busy held)) = ⊥
IsNotHeld (Err last.NotOver) = Unit {0}
IsNotHeld (Err last.OutOfMemory) = Unit {0}

-- no slot was refused to it
abbrev pub IsNotBusy : Result (Unit {0}) YieldRefused → Type 0
IsNotBusy (Ok done) = Unit {0}
IsNotBusy (Err (Busy held)) = ⊥
IsNotBusy (Err OutOfMemory) = Unit {0}

-- It has given the deque up, where no end is kept; or a slot was refused to it; or it was answered the end that is kept; or memory was refused to
-- it, which is the stop that it finds.
abbrev pub GivesUp : HallSeat → DequeId → Result (Unit {0}) ActRefused → HallSeat → Type 0
GivesUp before deque (Ok done) after =
    (list : ListSlot) × (list.end ≡ None) × HasTakenBoth before deque list (yielded_note before.hand.note deque) after
GivesUp before deque (Err (failed.Busy held)) after = IsBusy before deque held after
GivesUp before deque (Err (failed.Over end)) after =
    (list : ListSlot) × (list.end ≡ Some end) × HasTakenBoth before deque list (answered_note before.hand.note list) after
GivesUp before deque (Err (failed.Stopped stop)) after = (stop ≡ stops.OutOfMemory)
    × (list : ListSlot) × (list.end ≡ None) × HasTakenBoth before deque list (found_note before.hand.note stops.OutOfMemory) after
