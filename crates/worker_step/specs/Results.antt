-- A result that comes at once to the parent of the thread that ended.
use Rattle.std.specs.Prelude.{◌≡◌, ℕ, Some, List, [], ◌∷◌}
use Rattle.deque_list.specs.declared.deque_id.DequeId.{DequeId}
use Rattle.deque_list.specs.DequeLists.{ListView}
use Rattle.list_changes.specs.Shown.{deque_with, Stands, Becomes}
use Rattle.thread_frames.specs.Children.{IsAwaited}
use Rattle.thread_frames.specs.Views.{children_of, label_of}
use Rattle.thread_frames.specs.declared.ended.Ended.{Ended}
use Rattle.thread_frames.specs.declared.thread.Thread.{Thread}
use Rattle.thread_actions.specs.Results.{IsGiven}

-- The result of a thread that ended came at once to its parent, which was on top of the worker's deque without it, and nothing else in the
-- list has changed.
pub record ComesBelow (worker : ℕ) (id : DequeId) (ended : Ended) (before after : ListView Thread) (items : List Thread)
    (stands : Stands before worker id items) : Type 0 where
  pub parent : Thread
  pub now : Thread
  pub below : List Thread
  pub items_are : items ≡ parent ∷ below
  pub awaited : IsAwaited (label_of parent) ended (children_of parent)
  pub given : IsGiven ended parent now
  pub becomes : Becomes stands after (deque_with id (Some worker) (now ∷ below) ∷ [])
