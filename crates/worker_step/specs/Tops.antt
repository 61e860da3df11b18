-- How the top thread of a worker's deque is taken out.
use Rattle.std.specs.Prelude.{◌≡◌, ℕ, List, Some}
use Rattle.deque_list.specs.declared.deque_id.DequeId.{DequeId}
use Rattle.open_periods.specs.Periods.{Period}
use Rattle.open_periods.specs.Tables.{period_at, deque_at}
use Rattle.thread_frames.specs.declared.thread.Thread.{Thread}
use Rattle.list_changes.specs.Shown.{Stands}
use Rattle.scheduler_state.specs.declared.scheduler.Scheduler.{Scheduler}
use Rattle.scheduler_state.specs.Held.{held, held_under, IsReordered}
use Rattle.worker_step.specs.Keeping.{KeepsRoom}
use Rattle.worker_step.specs.Memory.{HasMemory}

-- The top thread of the worker's deque was taken out, and there is memory for the worker's event: with the thread on top all is held as
-- before, but for order and memory.
pub record TakesTop (worker : ℕ) (id : DequeId) (top : Thread) (before after : Scheduler) : Type 0 where
  pub seat : deque_at before.table worker ≡ Some id
  pub items : List Thread
  pub stands : Stands after.list worker id items
  pub same : IsReordered (held before) (held_under after stands top)
  pub period : (p : Period) × (period_at after.table worker ≡ Some p)
  pub memory : HasMemory 2 after worker id
  pub keeps : KeepsRoom before after
