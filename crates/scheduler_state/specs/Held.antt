-- What a scheduler holds, and the parts of the machine's laws that it is.
use Rattle.std.specs.Prelude.{◌≡◌, ◌≢◌, ℕ, List, ◌∷◌, ◌++◌, map, Some}
use Rattle.std.specs.List.Sorted.{IsPermutation}
use Rattle.dag_order.specs.declared.thread_id.ThreadId.{ThreadId}
use Rattle.deque_list.specs.declared.deque_id.DequeId.{DequeId}
use Rattle.deque_list.specs.Deques.{Deque}
use Rattle.open_periods.specs.Passed.Lists.{Each}
use Rattle.space_ledger.specs.declared.moved.Moved.{Moved}
use Rattle.space_ledger.specs.MovesList.{moves_list}
use Rattle.node_table.specs.Table.{Table}
use Rattle.thread_frames.specs.declared.thread.Thread.{Thread}
use Rattle.thread_frames.specs.declared.ended.Ended.{Ended}
use Rattle.thread_frames.specs.Points.{IsAtPoint, IsResult}
use Rattle.open_periods.specs.declared.table.PeriodTable.{PeriodTable}
use Rattle.open_periods.specs.Tables.{periods_of, deque_at}
use Rattle.moment_laws.specs.Passed.Parts as parts
use Rattle.thread_frames.specs.Shown.{thread_shown}
use Rattle.moment_laws.specs.Passed.Shown.{deque_shown, Stands}
use Rattle.thread_frames.specs.Kept.{waiting_shown, result_kept, WaitsUnder, IsUnderItsId}
use Rattle.scheduler_state.specs.declared.scheduler.Scheduler.{Scheduler}

-- The deques; the waiting threads, each with the id of the child that it waits for; the results, each with the id of its thread; the
-- periods; the words that are out; the moves; and how many actions are done.
pub record Held : Type 0 where
  pub deques : List (Deque Thread)
  pub waiting : List (ThreadId × Thread)
  pub results : List (ThreadId × Ended)
  pub table : PeriodTable
  pub live : ℕ
  pub moves : List Moved
  pub done : ℕ

abbrev pub held : Scheduler → Held
held s = record {
  deques = s.list.deques;
  waiting = s.waiting.entries;
  results = s.results.entries;
  table = s.table;
  live = s.pool.live;
  moves = moves_list s.moves;
  done = s.done;
}

-- the same with a thread on top of the worker's deque, from which it was taken
abbrev pub held_under : (s : Scheduler) → {worker : ℕ} → {id : DequeId} → {items : List Thread} → Stands s.list worker id items → Thread
    → Held
held_under s {worker} {id} {items} stands top =
    record (held s) { deques = stands.left ++ record { id = id; owner = Some worker; items = top ∷ items } ∷ stands.right }

-- the parts that it is
abbrev pub parts_in : Held → parts.Parts
parts_in h = record {
  deques = map (deque_shown thread_shown) h.deques;
  waiting = map waiting_shown h.waiting;
  results = map result_kept h.results;
  periods = periods_of h.table;
}

-- the same is held but for the order of what waits and of the results, which is of no account, and for memory
pub record IsReordered (before after : Held) : Type 0 where
  pub deques : after.deques ≡ before.deques
  pub waiting : IsPermutation before.waiting after.waiting
  pub results : IsPermutation before.results after.results
  pub periods : periods_of after.table ≡ periods_of before.table
  pub seats : (w : ℕ) → deque_at after.table w ≡ deque_at before.table w
  pub begun : after.table.begun ≡ before.table.begun
  pub live : after.live ≡ before.live
  pub moves : after.moves ≡ before.moves
  pub done : after.done ≡ before.done

-- each deque that has an owner is that of the owner's seat
abbrev pub OwnersSit : PeriodTable → List (Deque Thread) → Type 0
OwnersSit table deques = Each (λ deque. (w : ℕ) → Deque.owner deque ≡ Some w → deque_at table w ≡ Some (Deque.id deque)) deques

-- none of the deques on either side is the worker's
abbrev pub OwnsNone : ℕ → List (Deque Thread) → List (Deque Thread) → Type 0
OwnsNone worker left right =
    Each (λ deque. Deque.owner deque ≢ Some worker) left × Each (λ deque. Deque.owner deque ≢ Some worker) right

-- What is in order beside the moment: owners sit at their deques, and what waits or is kept stands under its id.
pub record IsInOrder (h : Held) : Type 0 where
  pub owners : OwnersSit h.table h.deques
  pub waiting : Each WaitsUnder h.waiting
  pub results : Each IsUnderItsId h.results

-- each thread is at its point
pub record AreAtPoints (t : Table) (k : ℕ) (h : Held) : Type 0 where
  pub in_deques : Each (λ deque. Each (IsAtPoint t k) (Deque.items deque)) h.deques
  pub waiting : Each (λ entry. IsAtPoint t k entry.1) h.waiting

-- each result is that of its thread
abbrev pub AreResults : Table → ℕ → Held → Type 0
AreResults t k h = Each (λ entry. IsResult t k entry.1) h.results
