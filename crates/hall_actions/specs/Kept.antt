-- What an owner's call has in its hands when it joins a child whose result is in the list.
use Rattle.std.specs.Prelude.{◌≡◌, Some}
use Rattle.thread_frames.specs.declared.next.Next.TheVariants as nexts
use Rattle.hall_parts.specs.HallNames.{ListSlot, HallKey, table_of, quota_of, ThreadId, IsAwaited, IsOnlyNewest, IsResult, children_of, label_of, next_of}
use Rattle.hall_parts.specs.HallNames.{Ended, Thread, kept_under}

-- The thread is before the Join of this child, its newest open one, and no other open child has its id. Its result is in the list, under its
-- id, and is the one that the thread waits for.
pub record CanJoinKept (key : HallKey) (list : ListSlot) (top : Thread) (child : ThreadId) : Type 0 where
  pub next : next_of top ≡ Some (nexts.Join child)
  pub only : IsOnlyNewest child (children_of top)
  pub ended : Ended
  pub kept : kept_under list.part.results child ≡ Some ended
  pub its_id : ended.id ≡ child
  pub result : IsResult (table_of key) (quota_of key) ended
  pub awaited : IsAwaited (label_of top) ended (children_of top)
