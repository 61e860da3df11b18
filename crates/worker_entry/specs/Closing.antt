-- What a hall gives that is closed.
use Rattle.std.specs.Prelude.{◌≡◌, ◌≢◌, ◌⊎◌, ◌<◌, Option, None, Some, Result, Ok, Err}
use Rattle.dag_order.specs.Births.{root}
use Rattle.dag_order.specs.declared.finish.Finish.{Finish}
use Rattle.deque_list.specs.declared.deque_id.DequeId.{DequeId}
use Rattle.dfd_core.specs.Parts.{root_behind}
use Rattle.play_rules.specs.declared.ends.RunEnd.{RunEnd}
use Rattle.play_rules.specs.declared.ends.RunEnd.TheVariants.{Finished}
use Rattle.play_rules.specs.declared.stop.Stop.TheVariants as stops
use Rattle.thread_map.specs.Kept.{kept_under}
use Rattle.turn_table.specs.Tables.{key_of}
use Rattle.hall_slots.specs.Closing.{HasSeen, IsClosed}
use Rattle.hall_slots.specs.declared.list_slot.ListSlot.{ListSlot}
use Rattle.hall_slots.specs.declared.pool_slot.PoolSlot.{PoolSlot}
use Rattle.worker_entry.specs.declared.closing.Closing.{Closing}
use Rattle.worker_entry.specs.declared.hall.Hall.{Hall}
use Rattle.worker_entry.specs.declared.seat.Seat.{Seat}
use Rattle.worker_entry.specs.declared.refused.CloseRefused.{CloseRefused}
use Rattle.worker_entry.specs.declared.refused.CloseRefused.TheVariants.{StillIn, NotOver, OutOfMemory}
use Rattle.hall_owner.specs.Yielding.{closing_note, short_note, stop_then, HasTakenBoth}
use Rattle.hall_owner.specs.declared.leaving.LastRefused.{LastRefused}
use Rattle.hall_owner.specs.declared.leaving.LastRefused.TheVariants as last
use Rattle.worker_entry.specs.Seated.{SameSeat}

-- What comes out of this list and this pool, of a run that ended so: the closed periods, the moves, and the result of the root if it finished.
pub record GivesClosing (list : ListSlot) (pool : PoolSlot) (end : RunEnd) (closing : Closing) : Type 0 where
  pub same_end : closing.end ≡ end
  pub books : closing.books ≡ list.part.books
  pub moves : closing.moves ≡ pool.moves
  pub root : closing.root ≡ root_behind end (kept_under list.part.results root)

-- the seat saw this end kept in the list, or none, and is what it was
abbrev pub HasSeenIn : Seat → Option RunEnd → Seat → Type 0
HasSeenIn last end seen = HasSeen last.place end seen.place × SameSeat last seen

-- How it is with the hall and a seat that has all places and owns no deque: they give what is left of one run, or no end is kept.
abbrev pub ClosesAlone : Hall → Seat → Result Closing (Hall × Seat × CloseRefused) → Type 0
ClosesAlone hall last (Ok closing) =
    (list : ListSlot) × (pool : PoolSlot) × IsClosed (key_of hall.row) last.place list pool closing.end × GivesClosing list pool closing.end closing
ClosesAlone hall last (Err (back, seat, StillIn places)) = ⊥
ClosesAlone hall last (Err (back, seat, NotOver)) = HasSeenIn last None seat × (key_of back.row ≡ key_of hall.row)
ClosesAlone hall last (Err (back, seat, OutOfMemory)) = ⊥

-- The seat took its lane and this list, in which this end is kept, and has given its deque up, with which it has yielded, by one put back. It was
-- answered the end, and before not that the run has finished.
pub record HasClosedWith (before : Seat) (deque : DequeId) (end : RunEnd) (after : Seat) : Type 0 where
  pub owned : before.owned ≡ Some deque
  pub list : ListSlot
  pub kept : list.end ≡ Some end
  pub leaves : HasTakenBoth before.place deque list (closing_note before.place.hand.note deque end) after.place
  pub worker : after.worker ≡ before.worker
  pub places : after.places ≡ before.places
  pub idle : after.owned ≡ None
  pub stop : after.stop ≡ before.stop
  pub unfinished : (finish : Finish) → before.place.hand.note.answered ≢ Some (Finished finish)

-- It took its lane and this list, in which no end is kept, and is what it was.
pub record HasFoundOpen (before after : Seat) : Type 0 where
  pub deque : DequeId
  pub owned : before.owned ≡ Some deque
  pub list : ListSlot
  pub open_list : list.end ≡ None
  pub leaves : HasTakenBoth before.place deque list before.place.hand.note after.place
  pub same : SameSeat before after

-- It took its lane and this list, in which an end is kept, and there was not enough memory to close the period of its deque. This is the stop that
-- it finds, if it had found none.
pub record RunsShortLast (before after : Seat) : Type 0 where
  pub deque : DequeId
  pub owned : before.owned ≡ Some deque
  pub list : ListSlot
  pub end : RunEnd
  pub kept : list.end ≡ Some end
  pub leaves : HasTakenBoth before.place deque list (short_note before.place.hand.note) after.place
  pub worker : after.worker ≡ before.worker
  pub places : after.places ≡ before.places
  pub still : after.owned ≡ before.owned
  pub stop : after.stop ≡ Some (stop_then before.stop)

-- how it is with a seat that has all places and owns a deque
abbrev pub LetsGoOf : Seat → Result RunEnd LastRefused → Seat → Type 0
LetsGoOf before (Ok end) after = (deque : DequeId) × HasClosedWith before deque end after
LetsGoOf before (Err (last.Busy held)) after = Unit {0}
LetsGoOf before (Err last.NotOver) after = HasFoundOpen before after
LetsGoOf before (Err last.OutOfMemory) after = RunsShortLast before after

-- The seat owns no deque; or it has given its deque up where this end is kept.
abbrev pub LetsGoAfter : RunEnd → Seat → Seat → Type 0
LetsGoAfter end last idle = ((last.owned ≡ None) × (idle ≡ last)) ⊎ ((deque : DequeId) × HasClosedWith last deque end idle)

-- No end is kept: the seat saw this in the list alone, if it owns no deque or had found lack of memory; else it took its lane before.
abbrev pub FindsOpen : Seat → Seat → Type 0
FindsOpen last seat = (((last.owned ≡ None) ⊎ (last.stop ≡ Some stops.OutOfMemory)) × HasSeenIn last None seat) ⊎ HasFoundOpen last seat

-- How it is with a hall and a seat: they give what is left of one run, in which the seat gave its deque up last, if it owned one. Or another seat
-- has places, or no end is kept; or one is, and there is not enough memory to give its deque up, or the seat had found this before. Then both are
-- what they were, but that the seat saw the list, and may have found a lack of memory.
abbrev pub Closes : Hall → Seat → Result Closing (Hall × Seat × CloseRefused) → Type 0
Closes hall last (Ok closing) = (last.places ≡ hall.workers) × (idle : Seat) × LetsGoAfter closing.end last idle × (list : ListSlot) × (pool : PoolSlot)
    × IsClosed (key_of hall.row) idle.place list pool closing.end × GivesClosing list pool closing.end closing
Closes hall last (Err (back, seat, StillIn places)) = (last.places < hall.workers) × (places ≡ last.places) × (back ≡ hall) × (seat ≡ last)
Closes hall last (Err (back, seat, NotOver)) = (last.places ≡ hall.workers) × FindsOpen last seat × (key_of back.row ≡ key_of hall.row)
Closes hall last (Err (back, seat, OutOfMemory)) = (last.places ≡ hall.workers) × (back ≡ hall)
    × (((last.stop ≡ Some stops.OutOfMemory) × (end : RunEnd) × HasSeenIn last (Some end) seat) ⊎ RunsShortLast last seat)

-- an end may be kept where a hall is not closed for this cause
abbrev pub MayHaveEnded : CloseRefused → Type 0
MayHaveEnded (StillIn places) = Unit {0}
MayHaveEnded NotOver = ⊥
MayHaveEnded OutOfMemory = Unit {0}
