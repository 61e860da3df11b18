-- What an owner knows of its lane and of the pool once it took them.
use Rattle.std.specs.Prelude.{◌≡◌, ◌≢◌, ℕ, ◌+◌, ◌≤◌, ◌<◌, false, Some, List, ◌∷◌}
use Rattle.hall_parts.specs.HallNames.{DequeId, Each, LaneSlot, PoolSlot, HallKey, table_of, quota_of, IsKey, HallSeat, MeetsLaw, IsAtPoint, done_of}
use Rattle.hall_parts.specs.HallNames.{thread_words, Thread, HasAs, PoolIsSound}
use Rattle.depth_first_list.specs.Actions.{record_words}
use Rattle.open_periods.specs.declared.period.Period.{Period as OpenPeriod}
use Rattle.hall_parts.specs.Passed.StopVariants.{OutOfMemory}
use Rattle.hall_slots.specs.declared.slot.Slot.TheVariants as slots

-- The quota covers a record block. The lane has a thread on top and a period that runs. Unless the seat found that memory was wanting, all its threads are at their points.
-- The top thread has no more words than the pool and has done no more actions than may be done, and the period has used no more than the quota.
pub record ReadsLane (key : HallKey) (seat : HallSeat) (lane : LaneSlot) : Type 0 where
  pub quota : record_words ≤ quota_of key
  pub top : Thread
  pub under : List Thread
  pub items : lane.lane.items ≡ top ∷ under
  pub holder : ℕ
  pub period : OpenPeriod
  pub running : lane.running ≡ Some (record { worker = holder; period = period })
  pub points : seat.hand.note.found ≢ Some OutOfMemory → Each (IsAtPoint (table_of key) (quota_of key)) lane.lane.items
  pub words : thread_words top ≤ key.capacity
  pub done : done_of top ≤ key.actions
  pub used : period.used ≤ quota_of key

-- a seat that is in, owns a deque and holds its lane
pub record HoldsItsLane (seat : HallSeat) (deque : DequeId) (lane : LaneSlot) : Type 0 where
  pub placed : 0 < seat.hand.note.places
  pub stays : seat.hand.note.left ≡ false
  pub owns : seat.hand.note.deque ≡ Some deque
  pub holds : HasAs (deque.0 + 2) (slots.Lane lane) seat.hand.holds

-- by the law it knows this
abbrev pub OwnersRead : Type 0
OwnersRead = (key : HallKey) (seat : HallSeat) (deque : DequeId) (lane : LaneSlot) → HoldsItsLane seat deque lane → MeetsLaw key seat
    → ReadsLane key seat lane

-- and if it holds the pool too, that the words of its top thread are in use there
abbrev pub OwnersReadPools : Type 0
OwnersReadPools = (key : HallKey) (seat : HallSeat) (deque : DequeId) (lane : LaneSlot) (pool : PoolSlot) (top : Thread) (under : List Thread)
    → HoldsItsLane seat deque lane → HasAs 1 (slots.Pool pool) seat.hand.holds → MeetsLaw key seat → lane.lane.items ≡ top ∷ under
    → thread_words top ≤ pool.pool.live

-- A pool that a seat holds is sound, and so is the key of the hall.
abbrev pub PoolsAreSound : Type 0
PoolsAreSound = (key : HallKey) (seat : HallSeat) (pool : PoolSlot) → HasAs 1 (slots.Pool pool) seat.hand.holds → MeetsLaw key seat
    → PoolIsSound key pool

abbrev pub KeysAreSound : Type 0
KeysAreSound = (key : HallKey) (seat : HallSeat) → MeetsLaw key seat → IsKey key
