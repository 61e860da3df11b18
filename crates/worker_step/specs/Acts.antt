-- What an action of a worker's top thread comes to.
use Rattle.std.specs.Prelude.{◌≡◌, ℕ, ◌+◌, Bool, List, ◌++◌, Some, ℤ, pos, ◌+ℤ◌, ◌-ℤ◌}
use Rattle.dag_order.specs.declared.action_id.ActionId.{ActionId}
use Rattle.deque_list.specs.declared.deque_id.DequeId.{DequeId}
use Rattle.space_ledger.specs.declared.moved.Moved.{Moved}
use Rattle.space_ledger.specs.MovesList.{moves_list}
use Rattle.depth_first_list.specs.Actions.{weight_of}
use Rattle.depth_first_list.specs.Facts.{words_at}
use Rattle.depth_first_run.specs.States.{Setting}
use Rattle.open_periods.specs.Passed.DequeMachineRuns.{moves_words}
use Rattle.node_table.specs.Table.{Table}
use Rattle.open_periods.specs.Periods.{Period}
use Rattle.open_periods.specs.Tables.{period_at}
use Rattle.moment_shown.specs.Parts.{Parts}
use Rattle.moment_shown.specs.Events.{Does}
use Rattle.depth_first_run.specs.Run.{list_of}
use Rattle.thread_frames.specs.Actions.{IsOfTheList, deed_of, TellsWords}
use Rattle.thread_frames.specs.declared.next.Next.{Next}
use Rattle.thread_frames.specs.declared.thread.Thread.{Thread}
use Rattle.thread_frames.specs.Views.{label_of, done_of}
use Rattle.list_changes.specs.Shown.{Stands}
use Rattle.scheduler_state.specs.declared.scheduler.Scheduler.{Scheduler}
use Rattle.scheduler_state.specs.Passed.Moves.{noted_if}
use Rattle.scheduler_state.specs.Passed.Standing.{Settles}
use Rattle.scheduler_state.specs.Held.{Held, held, held_under, parts_in, IsReordered, OwnsNone, IsInOrder, AreAtPoints, AreResults}
use Rattle.worker_step.specs.Keeping.{KeepsRoom}

-- by how much the words that are out changed
abbrev pub change : ℕ → ℕ → ℤ
change before after = pos after -ℤ pos before

-- the move of an action that is one
abbrev pub noted : Bool → ActionId → ℤ → List Moved
noted is_one name change = noted_if is_one (record { by = name; change = change })

-- A worker's top thread, which was taken out, did its next action: with it on top as it was, and perhaps in another order, the parts become
-- by what the machine does those that are held now, where a result may have come to its parent at once. `Where` says what its period and its words must be like. What was in order is so, who
-- was at his point is so, and results are results.
pub record Acted (next : Next) (Where : ℕ → Period → ℕ → Type 0) (worker : ℕ) (id : DequeId) (top : Thread)
    (before : Scheduler) (after : Held) : Type 0 where
  pub does : (items : List Thread) (stands : Stands before.list worker id items) → IsInOrder (held_under before stands top)
      → (c : Setting) (k : ℕ) (is : IsOfTheList c top next) (period : Period)
      → period_at before.table worker ≡ Some period → Where k period (words_at (list_of c) (IsOfTheList.place is))
      → (first : Held) × IsReordered (held_under before stands top) first
      × (parts : Parts) × Does k (list_of c) (parts_in first) worker (IsOfTheList.place is) parts × Settles worker parts (parts_in after)
  pub begun : after.table.begun ≡ before.table.begun
  pub in_order : (items : List Thread) (stands : Stands before.list worker id items) → OwnsNone worker stands.left stands.right
      → IsInOrder (held_under before stands top) → IsInOrder after
  pub points : (t : Table) (k : ℕ) (items : List Thread) (stands : Stands before.list worker id items)
      → AreAtPoints t k (held_under before stands top) → AreAtPoints t k after
  pub results : (t : Table) (k : ℕ) (items : List Thread) (stands : Stands before.list worker id items)
      → AreAtPoints t k (held_under before stands top) → AreResults t k (held before) → AreResults t k after

-- it did it with its words, and the answer is whether it is a move; it is not counted or noted yet
pub record Performs (next : Next) (Where : ℕ → Period → ℕ → Type 0) (worker : ℕ) (id : DequeId) (top : Thread) (before after : Scheduler)
    (moved : Bool) : Type 0 where
  pub acted : Acted next Where worker id top before (held after)
  pub live : (words : ℕ) → TellsWords top next words → pos after.pool.live ≡ pos before.pool.live +ℤ weight_of (deed_of top next) words
  pub moved_words : (words : ℕ) → TellsWords top next words → moved ≡ moves_words (deed_of top next) (label_of top) words
  pub moves : after.moves ≡ before.moves
  pub done : after.done ≡ before.done
  pub keeps : KeepsRoom before after

-- and it is counted under this name, and noted where it is a move
pub record Acts (next : Next) (Where : ℕ → Period → ℕ → Type 0) (worker : ℕ) (id : DequeId) (top : Thread) (before after : Scheduler)
    (name : ActionId) : Type 0 where
  pub acted : Acted next Where worker id top before (held after)
  pub by : name.by ≡ Thread.id top
  pub index : name.index ≡ done_of top
  pub done : after.done ≡ before.done + 1
  pub live : (words : ℕ) → TellsWords top next words → pos after.pool.live ≡ pos before.pool.live +ℤ weight_of (deed_of top next) words
  pub moves : (words : ℕ) → TellsWords top next words → moves_list after.moves ≡ moves_list before.moves
      ++ noted (moves_words (deed_of top next) (label_of top) words) name (change before.pool.live after.pool.live)
  pub keeps : KeepsRoom before after
