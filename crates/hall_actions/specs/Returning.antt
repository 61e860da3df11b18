-- What an owner puts back if no event comes.
use Rattle.std.specs.Prelude.{◌≡◌}
use Rattle.hall_parts.specs.HallNames.{DequeId, lane_shown, HallSeat, HallKey, LaneSlot, ListSlot, PoolSlot}
use Rattle.hall_parts.specs.Rooms.{HasMoreRoom, IsSamePool}
use Rattle.hall_parts.specs.Staying.{NotesOn, AllAtPoints}
use Rattle.hall_parts.specs.EventParts.{MayGoOn}
use Rattle.hall_parts.specs.Puts.{note_of}
use Rattle.hall_parts.specs.declared.noting.Noting.{Noting}
use Rattle.hall_parts.specs.Writes.{Parts, parts, MayBecome}
use Rattle.hall_parts.specs.Taken.{pool_and_lane, list_and_lane, all_three}

-- Wherever these parts are, the seat may note this: it stays the same seat, and the hall goes on.
pub record MayNote (key : HallKey) (seat : HallSeat) (deque : DequeId) (was : Parts) (noting : Noting) : Type 0 where
  pub on : NotesOn seat.hand.note (note_of seat.hand.note noting)
  pub goes_on : MayBecome key seat deque was was (note_of seat.hand.note noting)

-- The seat owns the deque, whose lane shows what it showed, with all its threads at their points.
pub record ReturnsLane (key : HallKey) (seat : HallSeat) (deque : DequeId) (was now : LaneSlot) : Type 0 where
  pub goes : MayGoOn seat deque
  pub same : lane_shown now ≡ lane_shown was
  pub points : AllAtPoints key now

-- It holds the pool and its lane, which are these now, and may note this;
pub record ReturnsPool (key : HallKey) (seat : HallSeat) (deque : DequeId) (pool : PoolSlot) (lane : LaneSlot) (noting : Noting) : Type 0 where
  pub pool_was : PoolSlot
  pub lane_was : LaneSlot
  pub holds : seat.hand.holds ≡ pool_and_lane deque pool_was lane_was
  pub pool_same : IsSamePool pool_was pool
  pub lane_same : ReturnsLane key seat deque lane_was lane
  pub may : (list : ListSlot) → MayNote key seat deque (parts list pool_was lane_was) noting

-- or the list and its lane;
pub record ReturnsList (key : HallKey) (seat : HallSeat) (deque : DequeId) (list : ListSlot) (lane : LaneSlot) (noting : Noting) : Type 0 where
  pub list_was : ListSlot
  pub lane_was : LaneSlot
  pub holds : seat.hand.holds ≡ list_and_lane deque list_was lane_was
  pub list_same : HasMoreRoom list_was list
  pub lane_same : ReturnsLane key seat deque lane_was lane
  pub may : (pool : PoolSlot) → MayNote key seat deque (parts list_was pool lane_was) noting

-- or all three.
pub record ReturnsAll (key : HallKey) (seat : HallSeat) (deque : DequeId) (list : ListSlot) (pool : PoolSlot) (lane : LaneSlot) (noting : Noting)
    : Type 0 where
  pub list_was : ListSlot
  pub pool_was : PoolSlot
  pub lane_was : LaneSlot
  pub holds : seat.hand.holds ≡ all_three deque list_was pool_was lane_was
  pub list_same : HasMoreRoom list_was list
  pub pool_same : IsSamePool pool_was pool
  pub lane_same : ReturnsLane key seat deque lane_was lane
  pub may : MayNote key seat deque (parts list_was pool_was lane_was) noting
