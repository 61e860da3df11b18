-- What an owner's call has in its hands when its deque is given up, or its thread waits.
use Rattle.std.specs.Prelude.{◌≡◌, ℕ, ◌≤◌, Option, false, None, List, ◌∷◌}
use Rattle.hall_parts.specs.HallNames.{DequeId, Each, ListSlot, HallKey, ThreadId, deed_of, Thread, kept_under, thread_shown}
use Rattle.depth_first_list.specs.Actions.{joins}
use Rattle.hall_slots.specs.Passed.Parts.{Has}
use Rattle.thread_frames.specs.Passed.Parts as shown
use Rattle.space_ledger.specs.BooksList.{books_spare}
use Rattle.thread_frames.specs.declared.next.Next.TheVariants as nexts
use Rattle.thread_frames.specs.Kept.{IsUnderItsId}
use Rattle.hall_parts.specs.EventParts.{IsNext}

-- The deque is in the list, with an owner or none, and there is memory to close a period.
pub record CanClose (deque : DequeId) (list : ListSlot) : Type 0 where
  pub owner : Option ℕ
  pub has : Has list.part.order.places deque owner
  pub books : 1 ≤ books_spare list.part.books

-- The thread waits for this child, its newest open one: it is not delivered, has no result in the list, and nobody waits for it there, where
-- there is memory for one thread more.
pub record CanWait (key : HallKey) (list : ListSlot) (top : Thread) (child : ThreadId) : Type 0 where
  pub newest : shown.Child
  pub older : List shown.Child
  pub children : shown.Thread.children (thread_shown top) ≡ newest ∷ older
  pub waits_for : shown.Child.id newest ≡ child
  pub open_one : newest.delivered ≡ false
  pub joins_it : deed_of top (nexts.Join child) ≡ joins newest.ordinal
  pub no_result : kept_under list.part.results child ≡ None
  pub ids : Each IsUnderItsId list.part.results.entries
  pub next : IsNext key top (nexts.Join child)
  pub room : 1 ≤ list.part.waiting.spare
  pub free : kept_under list.part.waiting child ≡ None
