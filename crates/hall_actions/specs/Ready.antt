-- What an owner's call has in its hands when it does an action.
use Rattle.std.specs.Prelude.{◌≡◌, ℕ, ◌≤◌, ◌<◌, List}
use Rattle.hall_parts.specs.HallNames.{DequeId, Each, LaneSlot, Running, PoolSlot, Slot, HallKey, table_of, quota_of, HallSeat, IsAtPoint, done_of, Thread}
use Rattle.hall_parts.specs.HallNames.{PoolIsSound}
use Rattle.deque_list.specs.Lanes.{LaneView}
use Rattle.depth_first_list.specs.Actions.{record_words}
use Rattle.language_limits.specs.declared.TheConstants.{GREATEST_COUNT, GREATEST_QUOTA}
use Rattle.space_ledger.specs.MovesList.{moves_spare}
use Rattle.hall_parts.specs.Here.{HasRoomHere}
use Rattle.hall_parts.specs.Rooms.{IsSamePool}
use Rattle.hall_parts.specs.EventParts.{IsAtAction}
use Rattle.hall_parts.specs.Taken.{pool_and_lane}

-- It holds these slots, among them its lane as it took it. Of this it has the threads without the top one, the period that runs, and the top
-- thread, which has come to its next action since. All are at their points, the numbers are within their bounds, and there is memory for so
-- many threads more, an action and a birth.
pub record IsReady (key : HallKey) (seat : HallSeat) (taken : LaneSlot → List (ℕ × Slot)) (threads : LaneView Thread) (running : Running)
    (top : Thread) (more ready : ℕ) : Type 0 where
  pub quota : record_words ≤ quota_of key
  pub small : quota_of key ≤ GREATEST_QUOTA
  pub few : key.actions < GREATEST_COUNT
  pub lane : LaneSlot
  pub at : IsAtAction lane top threads.items running.worker running.period
  pub holds : seat.hand.holds ≡ taken lane
  pub used : running.period.used ≤ quota_of key
  pub done : done_of top ≤ key.actions
  pub point : IsAtPoint (table_of key) (quota_of key) top
  pub under : Each (IsAtPoint (table_of key) (quota_of key)) threads.items
  pub room : HasRoomHere more threads running.period ready

-- The pool is sound, and there is memory for a move.
pub record PoolIsReady (key : HallKey) (pool : PoolSlot) : Type 0 where
  pub sound : PoolIsSound key pool
  pub room : 1 ≤ moves_spare pool.moves

-- It holds the pool too, which may have more room now.
abbrev pub IsReadyWithPool : HallKey → HallSeat → DequeId → PoolSlot → LaneView Thread → Running → Thread → (more ready : ℕ) → Type 0
IsReadyWithPool key seat deque pool threads running top more ready =
    (was : PoolSlot) × IsSamePool was pool × IsReady key seat (pool_and_lane deque was) threads running top more ready
