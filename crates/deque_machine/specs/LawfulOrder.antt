-- Lawful order, and what else holds at each moment of a run.
use Rattle.std.specs.Prelude.{◌≡◌, ◌≢◌, ◌⊎◌, ℕ, ◌<◌, ◌≤◌, true, false, Option, None, Some, List, [], ◌∷◌, ◌++◌}
use Rattle.dag_order.specs.LabelOrder.{fork_of}
use Rattle.depth_first_run.specs.Passed.Actions.{forks, joins, Action}
use Rattle.depth_first_run.specs.Passed.Facts.{label_at, deed_at, IsLive, IsNext}
use Rattle.deque_machine.specs.Lists.{Among, Each, Differ}
use Rattle.deque_machine.specs.Books.{Book, booked, IsPrefix, is_ahead}
use Rattle.deque_machine.specs.Lawful.{LawfulBooks}
use Rattle.deque_machine.specs.Moments.{Deque, Waiting, Moment, done_at, threads_in, waiting_threads, owned_by, open_for, with_id, Rises}
use Rattle.deque_machine.specs.Machine.{Setting}

-- each thread but the bottom one stands directly above the thread that forked it
abbrev pub Stacked : List (List ℕ) → Type 0
Stacked [] = Unit {0}
Stacked (thread ∷ []) = Unit {0}
Stacked (thread ∷ parent ∷ below) = ((child : ℕ) × (thread ≡ fork_of parent child)) × Stacked (parent ∷ below)

-- The live children of each thread but the bottom one: none, or the one that stands directly above it. A live child
-- is one that was forked and has not ended, and so is open, since a Join comes after the End.
abbrev pub ChildrenAbove : List Action → (ℕ → ℕ) → Option (List ℕ) → List (List ℕ) → Type 0
ChildrenAbove l done above [] = Unit {0}
ChildrenAbove l done above (thread ∷ []) = Unit {0}
ChildrenAbove l done above (thread ∷ parent ∷ below) =
    ((child : ℕ) → IsLive l done (fork_of thread child) → above ≡ Some (fork_of thread child)) ×
    ChildrenAbove l done (Some thread) (parent ∷ below)

-- a thread waits: its next action is the Join of a child that has not ended
pub record Waits (l : List Action) (done : ℕ → ℕ) (waits : Waiting) : Type 0 where
  pub live : IsLive l done waits.thread
  pub place : ℕ
  pub next : IsNext l done waits.thread place
  pub joins_it : deed_at l place ≡ joins waits.child
  pub child_live : IsLive l done (fork_of waits.thread waits.child)

-- Lawful order, of what is done, the deques and the waiting threads.
pub record OrderOf (l : List Action) (done : ℕ → ℕ) (deques : List Deque) (waiting : List Waiting) : Type 0 where
  -- the labels rise, from left to right and from top to bottom
  pub rises : Rises (threads_in deques)
  -- in each deque each thread but the bottom one stands directly above the one that forked it
  pub stacked : Each (λ deque. Stacked deque.threads) deques
  -- a live child of a thread of a deque stands directly above it, or the thread is the bottom one
  pub children_above : Each (λ deque. ChildrenAbove l done None deque.threads) deques
  -- a waiting thread waits for a child, and is in no deque
  pub waits : Each (Waits l done) waiting
  pub apart : Each (λ thread. ¬ Among thread (threads_in deques)) (waiting_threads waiting)
  -- each live thread is in a deque or waits, what is in a deque is live, and nobody waits twice
  pub all_placed : (thread : List ℕ) → IsLive l done thread → Among thread (threads_in deques) ⊎ Among thread (waiting_threads waiting)
  pub all_live : Each (IsLive l done) (threads_in deques)
  pub wait_once : Differ (waiting_threads waiting)
  -- no deque is empty, they have different ids, and a worker owns at most one
  pub none_empty : Each (λ deque. deque.threads ≢ []) deques
  pub ids_differ : (id : ℕ) → with_id id deques ≤ 1
  pub owns_one : (worker : ℕ) → owned_by worker deques ≤ 1

abbrev pub LawfulOrder : List Action → Moment → Type 0
LawfulOrder l m = OrderOf l (done_at m) m.deques m.waiting

-- a thread's Fork stands among these
abbrev pub IsBorn : List Action → List ℕ → List ℕ → Type 0
IsBorn l places thread = (f child : ℕ) × Among f places × (deed_at l f ≡ forks child) × (thread ≡ fork_of (label_at l f) child)

-- it is the root, or its Fork stands among these
abbrev pub IsRootOrBorn : List Action → List ℕ → List ℕ → Type 0
IsRootOrBorn l places thread = (thread ≡ []) ⊎ IsBorn l places thread

-- behind what stands in the books before, whoever forks is the root or was born before
abbrev pub ParentsFirst : List Action → List ℕ → List ℕ → Type 0
ParentsFirst l before [] = Unit {0}
ParentsFirst l before (place ∷ later) =
    ((child : ℕ) → deed_at l place ≡ forks child → IsRootOrBorn l before (label_at l place)) × ParentsFirst l (place ∷ before) later

-- the threads of a worker's deque are the root, or were born in a period that is not newer than the worker's
abbrev pub BornBy : List Action → List Deque → List ℕ → Book → Type 0
BornBy l deques before book = (worker : ℕ) → book.owner ≡ Some worker
    → Each (λ deque. deque.owner ≡ Some worker → Each (IsRootOrBorn l (before ++ book.ran)) deque.threads) deques

-- and so of each open period, behind what stands in the books before
abbrev pub OwnedBorn : List Action → List Deque → List ℕ → List Book → Type 0
OwnedBorn l deques before [] = Unit {0}
OwnedBorn l deques before (book ∷ newer) = BornBy l deques before book × OwnedBorn l deques (before ++ book.ran) newer

-- Births: in the order of the periods, and in each in its order, whoever forks is the root or was born before. Each thread
-- of an owned deque is the root, or was born in a period that is not newer than its owner's.
pub record BirthsOf (l : List Action) (deques : List Deque) (books : List Book) : Type 0 where
  pub parents_first : ParentsFirst l [] (booked books)
  pub owned_born : OwnedBorn l deques [] books

-- the open periods are those of the workers that own a deque, one each
abbrev pub OnePeriodEach : List Deque → List Book → Type 0
OnePeriodEach deques books = (worker : ℕ) → open_for worker books ≡ owned_by worker deques

-- Lawful books of a moment: the books are lawful, the open ones are of the owners, and births are in order.
pub record LawfulPeriods (k : ℕ) (l : List Action) (m : Moment) : Type 0 where
  pub lawful : LawfulBooks k l m.books
  pub one_each : OnePeriodEach m.deques m.books
  pub births : BirthsOf l m.deques m.books

-- the first deque is a worker's
abbrev pub OwnsFirst : ℕ → List Deque → Type 0
OwnsFirst worker [] = ⊥
OwnsFirst worker (deque ∷ right) = deque.owner ≡ Some worker

-- Begun ahead: each period that is ahead is marked, and an open period that is not marked belongs to the owner of the
-- first deque.
pub record BegunAhead (l : List Action) (m : Moment) : Type 0 where
  pub ahead_marked : (n : ℕ) → IsPrefix l (done_at m) n → Each (λ book. is_ahead n book ≡ true → book.ahead ≡ true) m.books
  pub unmarked_first : (worker : ℕ) → Each (λ book. book.owner ≡ Some worker → book.ahead ≡ false → OwnsFirst worker m.deques) m.books

-- all that holds at each moment of a run
pub record IsLawful (s : Setting) (m : Moment) : Type 0 where
  pub order : LawfulOrder s.list m
  pub periods : LawfulPeriods s.quota s.list m
  pub begun : BegunAhead s.list m
  pub owners_below : (worker : ℕ) → 0 < owned_by worker m.deques → worker < s.workers
