-- Lanes in which nothing is decided.
use Rattle.std.specs.Prelude.{◌≡◌, ◌<◌, None, Some, List, ◌∷◌}
use Rattle.hall_parts.specs.HallNames.{DequeId, Each, LaneSlot, HallKey, lane_shown, table_of, quota_of, HallSeat}
use Rattle.hall_slots.specs.Passed.Thread.{Thread}
use Rattle.hall_slots.specs.Passed.ThreadFramesPoints.{IsAtPoint}
use Rattle.hall_parts.specs.EventParts.{MayPause}
use Rattle.hall_parts.specs.Staying.{AllAtPoints}
use Rattle.hall_parts.specs.Taken.{its_lane}

-- A lane in which nothing was done: it shows what it showed, and its threads are at their points.
pub record IsStillThere (key : HallKey) (seat : HallSeat) (deque : DequeId) (lane : LaneSlot) : Type 0 where
  pub placed : 0 < seat.hand.note.places
  pub owns : seat.hand.note.deque ≡ Some deque
  pub lane_was : LaneSlot
  pub holds : seat.hand.holds ≡ its_lane deque lane_was
  pub same : lane_shown lane ≡ lane_shown lane_was
  pub points : AllAtPoints key lane

-- one whose top thread may have stopped anywhere, since memory was wanting; the seat has found no stop before
pub record IsShortThere (key : HallKey) (seat : HallSeat) (deque : DequeId) (lane : LaneSlot) : Type 0 where
  pub may : MayPause seat deque
  pub none : seat.hand.note.found ≡ None
  pub lane_was : LaneSlot
  pub holds : seat.hand.holds ≡ its_lane deque lane_was
  pub same : lane_shown lane ≡ lane_shown lane_was
  pub top : Thread
  pub under : List Thread
  pub items : lane.lane.items ≡ top ∷ under
  pub points : Each (IsAtPoint (table_of key) (quota_of key)) under
