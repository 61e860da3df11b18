-- What an owner's call has in its hands when its top thread ends.
use Rattle.std.specs.Prelude.{◌≡◌, ◌≤◌, None, Some, [], ◌∷◌}
use Rattle.hall_parts.specs.HallNames.{Each, ListSlot, HallKey, table_of, quota_of, ThreadId, kept_under, IsAtPoint, Thread}
use Rattle.thread_frames.specs.Kept.{WaitsUnder}
use Rattle.hall_parts.specs.Passed.ThreadActionsResults.{FirstAwaits}

-- There is memory in the list for a result, none is kept under this id, and nobody waits under it.
pub record CanLeave (list : ListSlot) (id : ThreadId) : Type 0 where
  pub room : 1 ≤ list.part.results.spare
  pub free : kept_under list.part.results id ≡ None
  pub waiting : Each WaitsUnder list.part.waiting.entries
  pub nobody : kept_under list.part.waiting id ≡ None

-- A thread waits in the list under the id of this one, for its result. It is at its point.
pub record CanWake (key : HallKey) (list : ListSlot) (top : Thread) : Type 0 where
  pub parent : Thread
  pub waits : kept_under list.part.waiting (Thread.id top) ≡ Some parent
  pub under : WaitsUnder (Thread.id top, parent)
  pub awaits : FirstAwaits top (parent ∷ [])
  pub point : IsAtPoint (table_of key) (quota_of key) parent
