-- With each event of a seat the threads of a hall stay at their points.
use Rattle.std.specs.Prelude.{◌≡◌, ◌≢◌, ℕ}
use Rattle.deque_list.specs.declared.deque_id.DequeId.{DequeId}
use Rattle.deque_machine.specs.Lists.{Each}
use Rattle.thread_frames.specs.Passed.Table.{Table}
use Rattle.thread_frames.specs.Points.{IsAtPoint, IsResult}
use Rattle.hall_interleavings.specs.Placed.{Threads}

-- Only the lane of this deque has other threads than before, beside those that wait and the results; and if all of these were at their
-- points, and were results of the run, they still are.
pub record GoOnIn (t : Table) (k : ℕ) (id : DequeId) (before after : Threads) : Type 0 where
  pub beside : (other : DequeId) → other.0 ≢ id.0 → after.in_lane other ≡ before.in_lane other
  pub its : Each (IsAtPoint t k) (before.in_lane id) → Each (IsAtPoint t k) before.waiting → Each (IsResult t k) before.results
      → Each (IsAtPoint t k) (after.in_lane id) × Each (IsAtPoint t k) after.waiting × Each (IsResult t k) after.results
