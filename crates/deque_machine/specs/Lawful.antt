-- Lawful books.
use Rattle.std.specs.Prelude.{◌≡◌, ℕ, ◌+◌, ◌≤◌, ◌<◌, Option, None, List, [], ◌∷◌, ◌++◌, length}
use Rattle.depth_first_run.specs.Passed.Actions.{dummy, joins, ends, Action}
use Rattle.dag_order.specs.LabelOrder.{fork_of}
use Rattle.depth_first_run.specs.Passed.Facts.{deed_at, label_at, IsDone, IsLive, IsNext}
use Rattle.deque_machine.specs.Lists.{Each}
use Rattle.deque_machine.specs.Books.{Book, done_in, charge_at, charged}

-- a Dummy is the last that its period ran, and the period is closed
abbrev pub DummyEnds : List Action → Book → Type 0
DummyEnds l book = (front back : List ℕ) (place : ℕ) → book.ran ≡ front ++ place ∷ back → deed_at l place ≡ dummy →
    (back ≡ []) × (book.owner ≡ None)

-- what a period ran takes at most the quota
abbrev pub IsWithin : ℕ → List Action → Book → Type 0
IsWithin k l book = charged k l book.ran ≤ k

-- Lawful books, with a quota of k words: nothing is done twice, and all that is done is of the list; with an action
-- are done those of its thread before it, the Forks above it, and with a Join the End of the child; each period
-- keeps within the quota, and does nothing after a Dummy.
pub record LawfulBooks (k : ℕ) (l : List Action) (books : List Book) : Type 0 where
  pub different : (place : ℕ) → done_in books place ≤ 1
  pub of_the_list : (place : ℕ) → 0 < done_in books place → place < length l
  pub first_actions : IsDone l (done_in books)
  pub within : Each (IsWithin k l) books
  pub dummies_end : Each (DummyEnds l) books

-- One more action is lawful for an open period: it is the next of a live thread, at a Join the child has ended, and it
-- is within the quota; a Dummy closes the period.
pub record MayRun (k : ℕ) (l : List Action) (books : List Book) (ran : List ℕ) (after : Option ℕ) (place : ℕ) : Type 0 where
  pub live : IsLive l (done_in books) (label_at l place)
  pub next : IsNext l (done_in books) (label_at l place) place
  pub child_ended : (child e : ℕ) → deed_at l place ≡ joins child → e < length l → label_at l e ≡ fork_of (label_at l place) child
      → deed_at l e ≡ ends → 0 < done_in books e
  pub quota : charged k l ran + charge_at k l place ≤ k
  pub closes : deed_at l place ≡ dummy → after ≡ None
