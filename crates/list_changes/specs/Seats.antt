-- Which deque each worker has behind a call, beside what it had before.
use Rattle.std.specs.Prelude.{◌≡◌, ◌≢◌, ℕ, ◌+◌, None, Some, length}
use Rattle.deque_list.specs.declared.deque_id.DequeId.{DequeId}
use Rattle.open_periods.specs.declared.table.PeriodTable.{PeriodTable}
use Rattle.open_periods.specs.Tables.{seat_at, deque_at}

-- each worker has the deque that it had
pub record KeepsSeats (before after : PeriodTable) : Type 0 where
  pub deques : (w : ℕ) → deque_at after w ≡ deque_at before w
  pub begun : after.begun ≡ before.begun
  pub workers : length after.seats.items ≡ length before.seats.items

-- a worker has none any more, the others have what they had
pub record LeavesSeat (worker : ℕ) (before after : PeriodTable) : Type 0 where
  pub idle : seat_at after worker ≡ None
  pub others : (w : ℕ) → w ≢ worker → deque_at after w ≡ deque_at before w
  pub begun : after.begun ≡ before.begun
  pub workers : length after.seats.items ≡ length before.seats.items

-- a worker has a deque from now on, with a new period, the others have what they had
pub record TakesSeat (worker : ℕ) (id : DequeId) (before after : PeriodTable) : Type 0 where
  pub taken : deque_at after worker ≡ Some id
  pub others : (w : ℕ) → w ≢ worker → deque_at after w ≡ deque_at before w
  pub begun : after.begun ≡ before.begun + 1
  pub workers : length after.seats.items ≡ length before.seats.items
