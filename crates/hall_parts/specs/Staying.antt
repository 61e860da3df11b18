-- What each event of an owner leaves sound.
use Rattle.std.specs.Prelude.{◌≡◌, ℕ, Option, None, Some, [], ◌∷◌}
use Rattle.std.specs.List.Sorted.{IsPermutation}
use Rattle.dag_order.specs.Births.{root}
use Rattle.dag_order.specs.declared.finish.Finish.{Finish}
use Rattle.hall_parts.specs.HallNames.{DequeId, Each, LaneSlot, ListSlot, PoolSlot, SeatNote, HallKey, table_of, quota_of, HallSeat, ThreadId, kept_under}
use Rattle.hall_parts.specs.HallNames.{PoolIsSound}
use Rattle.hall_slots.specs.Passed.Parts.{Has}
use Rattle.play_rules.specs.declared.ends.RunEnd.TheVariants.{Finished}
use Rattle.play_rules.specs.declared.stop.Stop.{Stop}
use Rattle.thread_actions.specs.Results.{HasCome}
use Rattle.hall_slots.specs.Passed.ThreadFramesPoints.{IsAtPoint, IsResult}
use Rattle.hall_slots.specs.Passed.Ended.{Ended}
use Rattle.hall_slots.specs.Passed.Thread.{Thread}
use Rattle.hall_slots.specs.Passed.ThreadFramesKept.{WaitsUnder, IsUnderItsId}
use Rattle.hall_slots.specs.Passed.Roots.{end_of_root}
use Rattle.hall_slots.specs.Passed.HallMachinePoints.{LaneAtPoints}
use Rattle.hall_parts.specs.ListCalls.{KeepsCrew, TakesWaiting, IsHandedThere}
use Rattle.hall_slots.specs.ListCalls.{HasNoOwner, IsGone, KeepsRest}
use Rattle.hall_parts.specs.Writes.{parts, IsShort, StaySound}

-- The note is of the same seat: it has the worker, has left or not, and was answered, as before, and a stop that it found it has found.
pub record NotesOn (was now : SeatNote) : Type 0 where
  pub worker : now.worker ≡ was.worker
  pub left : now.left ≡ was.left
  pub answered : now.answered ≡ was.answered
  pub found : (stop : Stop) → was.found ≡ Some stop → now.found ≡ Some stop

-- the threads of a lane are at their points, and the pool is sound if it was
abbrev pub AllAtPoints : HallKey → LaneSlot → Type 0
AllAtPoints key lane = Each (IsAtPoint (table_of key) (quota_of key)) lane.lane.items

abbrev pub StaysSoundPool : HallKey → (was now : PoolSlot) → Type 0
StaysSoundPool key was now = PoolIsSound key was → PoolIsSound key now

-- Nothing is written into the list. The top thread may be short of its point if the seat found that memory was wanting.
abbrev pub LanesStaySound : Type 0
LanesStaySound = (key : HallKey) (seat : HallSeat) (deque : DequeId) (list : ListSlot) (pool_was pool : PoolSlot) (lane_was lane : LaneSlot)
    (note : SeatNote) → NotesOn seat.hand.note note → StaysSoundPool key pool_was pool
    → LaneAtPoints (IsAtPoint (table_of key) (quota_of key)) (IsShort note list.part.order.places list.part.order.places) lane.lane.items
    → StaySound key seat deque (parts list pool_was lane_was) (parts list pool lane) note

-- the deque is left without an owner
abbrev pub GivenUpStaysSound : Type 0
GivenUpStaysSound = (key : HallKey) (seat : HallSeat) (deque : DequeId) (list_was list : ListSlot) (pool : PoolSlot)
    (lane_was lane : LaneSlot) (note : SeatNote) (owner : Option ℕ) → NotesOn seat.hand.note note → Has list_was.part.order.places deque owner
    → HasNoOwner deque list_was.part.order.places list.part.order.places → KeepsRest list_was list → lane.running ≡ None → AllAtPoints key lane
    → StaySound key seat deque (parts list_was pool lane_was) (parts list pool lane) note

-- the thread of the lane waits in the list, under the id of its newest child
abbrev pub SuspendedStaysSound : Type 0
SuspendedStaysSound = (key : HallKey) (seat : HallSeat) (deque : DequeId) (list_was list : ListSlot) (pool : PoolSlot)
    (lane_was lane : LaneSlot) (note : SeatNote) (owner : Option ℕ) (child : ThreadId) (top : Thread) → NotesOn seat.hand.note note
    → Has list_was.part.order.places deque owner → IsGone deque list_was.part.order.places list.part.order.places → KeepsCrew list_was list
    → IsPermutation ((child, top) ∷ list_was.part.waiting.entries) list.part.waiting.entries
    → list.part.results ≡ list_was.part.results → WaitsUnder (child, top) → IsAtPoint (table_of key) (quota_of key) top
    → lane.lane.items ≡ [] → lane.running ≡ None → StaySound key seat deque (parts list_was pool lane_was) (parts list pool lane) note

-- the thread of the lane has ended, and its result is in the list
abbrev pub LeftStaysSound : Type 0
LeftStaysSound = (key : HallKey) (seat : HallSeat) (deque : DequeId) (list_was list : ListSlot) (pool_was pool : PoolSlot)
    (lane_was lane : LaneSlot) (note : SeatNote) (owner : Option ℕ) (id : ThreadId) (ended : Ended) → NotesOn seat.hand.note note
    → Has list_was.part.order.places deque owner → IsGone deque list_was.part.order.places list.part.order.places → KeepsCrew list_was list
    → IsPermutation ((id, ended) ∷ list_was.part.results.entries) list.part.results.entries
    → list.part.waiting ≡ list_was.part.waiting → IsUnderItsId (id, ended) → IsResult (table_of key) (quota_of key) ended
    → StaysSoundPool key pool_was pool → lane.lane.items ≡ [] → lane.running ≡ None
    → StaySound key seat deque (parts list_was pool_was lane_was) (parts list pool lane) note

-- so it is with the root, whose end is kept, if none was
abbrev pub RootStaysSound : Type 0
RootStaysSound = (key : HallKey) (seat : HallSeat) (deque : DequeId) (list_was list : ListSlot) (pool : PoolSlot)
    (lane_was lane : LaneSlot) (note : SeatNote) (owner : Option ℕ) (ended : Ended) (finish : Finish) → NotesOn seat.hand.note note
    → Has list_was.part.order.places deque owner → IsGone deque list_was.part.order.places list.part.order.places → KeepsCrew list_was list
    → IsPermutation ((root, ended) ∷ list_was.part.results.entries) list.part.results.entries → kept_under list.part.results root ≡ Some ended
    → list.part.waiting ≡ list_was.part.waiting → IsUnderItsId (root, ended) → IsResult (table_of key) (quota_of key) ended
    → lane.lane.items ≡ [] → lane.running ≡ None → list_was.end ≡ None → end_of_root (Some ended) ≡ Some (Finished finish)
    → StaySound key seat deque (parts list_was pool lane_was) (parts (record list { end = Some (Finished finish) }) pool lane) note

-- a thread that waited is in the lane now
abbrev pub WokenStaysSound : Type 0
WokenStaysSound = (key : HallKey) (seat : HallSeat) (deque : DequeId) (list_was list : ListSlot) (pool_was pool : PoolSlot)
    (lane_was lane : LaneSlot) (note : SeatNote) (child : ThreadId) (parent : Thread) → NotesOn seat.hand.note note
    → TakesWaiting list_was list child parent → KeepsCrew list_was list → list.part.results ≡ list_was.part.results
    → StaysSoundPool key pool_was pool → AllAtPoints key lane
    → StaySound key seat deque (parts list_was pool_was lane_was) (parts list pool lane) note

-- a result was handed to the top thread
abbrev pub HandedStaysSound : Type 0
HandedStaysSound = (key : HallKey) (seat : HallSeat) (deque : DequeId) (list_was list : ListSlot) (pool_was pool : PoolSlot)
    (lane_was lane : LaneSlot) (note : SeatNote) (child : ThreadId) (top handed : Thread) → NotesOn seat.hand.note note
    → IsHandedThere list_was list top handed child → HasCome list_was.part.results list.part.results top handed child → KeepsCrew list_was list
    → list.part.waiting ≡ list_was.part.waiting → StaysSoundPool key pool_was pool → AllAtPoints key lane
    → StaySound key seat deque (parts list_was pool_was lane_was) (parts list pool lane) note
