-- How the parent gets an entry of its own after a Fork.
use Rattle.std.specs.Prelude.{◌≡◌, ℕ, None, Some, [], ◌∷◌, ◌++◌}
use Rattle.list_changes.specs.Shown.{Stands, deque_with}
use Rattle.deque_list.specs.declared.deque_id.DequeId.{DequeId}
use Rattle.deque_list.specs.Deques.{deque_ids}
use Rattle.deque_list.specs.DequeLists.{ListView}
use Rattle.deque_list.specs.Ids.{IsSmallestFree}
use Rattle.thread_frames.specs.declared.thread.Thread.{Thread}
use Rattle.scheduler_state.specs.declared.scheduler.Scheduler.{Scheduler}

-- the worker's deque has two threads, and is cut in two: the lower thread has the new deque, without an owner
pub record IsCut (worker : ℕ) (before after : ListView Thread) : Type 0 where
  pub id : DequeId
  pub new : DequeId
  pub top : Thread
  pub bottom : Thread
  pub stands : Stands before worker id (top ∷ bottom ∷ [])
  pub free : IsSmallestFree (deque_ids before.deques) new
  pub deques : after.deques ≡ stands.left ++ deque_with id (Some worker) (top ∷ []) ∷ deque_with new None (bottom ∷ []) ∷ stands.right
  pub most : after.most ≡ before.most

-- either the worker has no deque of two threads, and nothing changed; or its deque is cut in two, and nothing else changed
pub data SetsAside (worker : ℕ) (before after : Scheduler) : Type 0 where
  stays : after ≡ before → ((id : DequeId) (top bottom : Thread) → ¬ Stands before.list worker id (top ∷ bottom ∷ []))
      → SetsAside worker before after
  is_cut : IsCut worker before.list after.list → after ≡ record before { list = after.list } → SetsAside worker before after
