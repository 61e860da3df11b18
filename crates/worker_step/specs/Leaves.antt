-- How a worker leaves its deque without an action.
use Rattle.std.specs.Prelude.{◌≡◌, ◌≢◌, ℕ, false, List, [], ◌∷◌, Some}
use Rattle.deque_list.specs.declared.deque_id.DequeId.{DequeId}
use Rattle.dag_order.specs.declared.thread_id.ThreadId.{ThreadId}
use Rattle.depth_first_list.specs.Actions.{Action, joins}
use Rattle.open_periods.specs.Passed.Lists.{Each}
use Rattle.node_table.specs.Table.{Table}
use Rattle.open_periods.specs.Periods.{Period}
use Rattle.open_periods.specs.Tables.{period_at}
use Rattle.moment_shown.specs.Parts as parts
use Rattle.moment_shown.specs.Events.{IsNextOf, GivesUp, Suspends}
use Rattle.thread_frames.specs.declared.thread.Thread.{Thread}
use Rattle.thread_frames.specs.Shown.{thread_shown}
use Rattle.list_changes.specs.Shown.{Stands}
use Rattle.scheduler_state.specs.declared.scheduler.Scheduler.{Scheduler}
use Rattle.scheduler_state.specs.Passed.Orders.{AreSame}
use Rattle.scheduler_state.specs.Held.{held, held_under, parts_in, IsInOrder, AreAtPoints, OwnsNone}
use Rattle.thread_frames.specs.Kept.{WaitsUnder}
use Rattle.worker_step.specs.Keeping.{KeepsRoom}

-- what stays where nothing is done
pub record IsIdleEvent (before after : Scheduler) : Type 0 where
  pub results : after.results ≡ before.results
  pub moves : after.moves ≡ before.moves
  pub pool : after.pool ≡ before.pool
  pub done : after.done ≡ before.done
  pub keeps : KeepsRoom before after

-- the worker gave its deque up, with the top thread on it
pub record LeavesDeque (worker : ℕ) (id : DequeId) (top : Thread) (before after : Scheduler) : Type 0 where
  pub gives_up : (items : List Thread) (stands : Stands before.list worker id items) (period : Period)
      → period_at before.table worker ≡ Some period → GivesUp (parts_in (held_under before stands top)) worker (parts_in (held after))
  pub begun : after.table.begun ≡ before.table.begun
  pub in_order : (items : List Thread) (stands : Stands before.list worker id items) → OwnsNone worker stands.left stands.right
      → IsInOrder (held_under before stands top) → IsInOrder (held after)
  pub points : (t : Table) (k : ℕ) (items : List Thread) (stands : Stands before.list worker id items)
      → AreAtPoints t k (held_under before stands top) → AreAtPoints t k (held after)
  pub same : IsIdleEvent before after

-- the top thread, alone in its deque, waits for its newest open child
pub record LeavesList (worker : ℕ) (id : DequeId) (top : Thread) (child : ThreadId) (before after : Scheduler) : Type 0 where
  pub suspends : (stands : Stands before.list worker id []) (l : List Action) (period : Period) (place : ℕ) (newest : parts.Child)
      (older : List parts.Child) → period_at before.table worker ≡ Some period → IsNextOf l (thread_shown top) place (joins newest.ordinal)
      → parts.Thread.children (thread_shown top) ≡ newest ∷ older → newest.delivered ≡ false
      → Each (λ result. result.id ≢ newest.id) (parts.Parts.results (parts_in (held before)))
      → (next : parts.Parts) × Suspends l (parts_in (held_under before stands top)) worker next × AreSame next (parts_in (held after))
  pub begun : after.table.begun ≡ before.table.begun
  pub in_order : (stands : Stands before.list worker id []) → OwnsNone worker stands.left stands.right → WaitsUnder (child, top)
      → IsInOrder (held_under before stands top) → IsInOrder (held after)
  pub points : (t : Table) (k : ℕ) (stands : Stands before.list worker id []) → AreAtPoints t k (held_under before stands top)
      → AreAtPoints t k (held after)
  pub same : IsIdleEvent before after
