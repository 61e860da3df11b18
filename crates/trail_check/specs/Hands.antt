-- What a busy worker has in its hands.
use Rattle.std.specs.Prelude.{◌≡◌, ℕ, Some, List, ◌∷◌, ◌++◌}
use Rattle.deque_machine.specs.Books.{Book}
use Rattle.deque_list.specs.declared.deque_id.DequeId.{DequeId}
use Rattle.deque_list.specs.Deques.{Deque}
use Rattle.deque_machine.specs.Moments.{Moment}
use Rattle.trail_check.specs.Holds.{Holds}

-- The worker owns this deque, in which the thread with its next action at this place stands on top, and has an open book.
pub record Hand (m : Moment) (deques : List (Deque ℕ)) (worker : ℕ) (id : DequeId) (place : ℕ) : Type 0 where
  pub under : List ℕ
  pub holds : Holds deques id (Some worker) (place ∷ under)
  pub older : List Book
  pub book : Book
  pub newer : List Book
  pub books_are : m.books ≡ older ++ book ∷ newer
  pub open_for_it : book.owner ≡ Some worker
