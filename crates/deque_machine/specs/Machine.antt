-- The machine: which events may come at a moment, and what each of them does.
use Rattle.std.specs.Prelude.{◌≡◌, ◌≢◌, ℕ, ◌+◌, ◌<◌, ◌≤◌, Bool, true, nat_lt, Option, None, Some, List, [], ◌∷◌, ◌++◌, length}
use Rattle.dag_order.specs.LabelOrder.{fork_of}
use Rattle.depth_first_run.specs.Passed.Actions.{Deed, forks, joins, allocates, releases, dummy, faults, ends, Action, record_words}
use Rattle.depth_first_run.specs.Passed.Facts.{label_at, deed_at, words_at, IsNext}
use Rattle.deque_machine.specs.Lists.{Each}
use Rattle.deque_machine.specs.Books.{Book, charged, one_more, book_of}
use Rattle.deque_machine.specs.Moments.{Deque, Waiting, Moment, deque_of, moment_of, done_at, owned_by, with_id}

-- what is fixed for a run: its depth-first list, its quota in words, and the number of its workers
pub record Setting : Type 0 where
  pub list : List Action
  pub quota : ℕ
  pub workers : ℕ

-- what a worker does: it steals from the deque at a place, into a deque with an id; it does the action at a place of
-- the list; it leaves a thread that has to wait; or it gives its deque up
pub data Event : Type 0 where
  steals : ℕ → ℕ → Event
  does : ℕ → Event
  suspends : Event
  gives_up : Event

-- the deque that a worker owns, with what is left and right of it, and the book that is open for the worker, with the
-- books of older and of newer periods
pub record Owns (m : Moment) (worker : ℕ) : Type 0 where
  pub left : List Deque
  pub id : ℕ
  pub top : List ℕ
  pub under : List (List ℕ)
  pub right : List Deque
  pub older : List Book
  pub book : Book
  pub newer : List Book
  pub deques_are : m.deques ≡ left ++ deque_of id (Some worker) (top ∷ under) ∷ right
  pub books_are : m.books ≡ older ++ book ∷ newer
  pub open_for_it : book.owner ≡ Some worker

-- the deques with other threads, and perhaps no owner, in the place of the worker's
abbrev pub deques_with : {m : Moment} {worker : ℕ} → Owns m worker → Option ℕ → List (List ℕ) → List Deque
deques_with o owner threads = o.left ++ deque_of o.id owner threads ∷ o.right

-- the books with one action more in the worker's, which stays open or is closed
abbrev pub books_with : {m : Moment} {worker : ℕ} → Owns m worker → Option ℕ → ℕ → List Book
books_with o owner place = one_more o.older o.book o.newer owner place

-- the books with the worker's closed
abbrev pub books_closed : {m : Moment} {worker : ℕ} → Owns m worker → List Book
books_closed o = o.older ++ book_of o.book None o.book.ran ∷ o.newer

-- the action at a place is the next one of the worker's top thread, and does this
pub record IsAtTop (s : Setting) (m : Moment) (top : List ℕ) (place : ℕ) (deed : Deed) : Type 0 where
  pub next : IsNext s.list (done_at m) top place
  pub deed_is : deed_at s.list place ≡ deed

-- a child of a thread has ended
abbrev pub HasEnded : Setting → Moment → List ℕ → Type 0
HasEnded s m thread = (e : ℕ) × (e < length s.list) × (label_at s.list e ≡ thread) × (deed_at s.list e ≡ ends) × (0 < done_at m e)

-- what a worker is that steals
pub record IsIdle (s : Setting) (m : Moment) (worker : ℕ) : Type 0 where
  pub is_worker : worker < s.workers
  pub owns_none : owned_by worker m.deques ≡ 0

-- the book of a period that begins
abbrev pub new_book : ℕ → Bool → Book
new_book worker ahead = record { ahead = ahead; owner = Some worker; ran = [] }

-- the moment after an action that changes nothing but the books
abbrev pub only_booked : (m : Moment) (worker : ℕ) → Owns m worker → ℕ → Moment
only_booked m worker o place = moment_of m.deques m.waiting (books_with o (Some worker) place)

-- the moment after an action behind which the worker's deque has these threads
abbrev pub booked_with : (m : Moment) (worker : ℕ) → Owns m worker → List (List ℕ) → ℕ → Moment
booked_with m worker o threads place = moment_of (deques_with o (Some worker) threads) m.waiting (books_with o (Some worker) place)

-- the moment after a theft, which begins a period
abbrev pub stolen : Moment → ℕ → Bool → List Deque → Moment
stolen m worker ahead deques = moment_of deques m.waiting (m.books ++ new_book worker ahead ∷ [])

-- `May s m worker event after`: at the moment m the worker may do the event, and then the moment is `after`.
pub data May (s : Setting) (m : Moment) (worker : ℕ) : Event → Moment → Type 0 where
  -- An idle worker takes the bottom thread of a deque, which keeps its other threads, into a new deque directly to the
  -- right of it. The victim has an owner or none, and stands at a place below the number of workers. The new period is
  -- marked ahead, since there is a deque to the left.
  steals_beside : (left right : List Deque) (victim : Deque) (first : List ℕ) (others : List (List ℕ)) (bottom : List ℕ) (id : ℕ)
      → IsIdle s m worker → length left < s.workers
      → m.deques ≡ left ++ victim ∷ right → victim.threads ≡ first ∷ (others ++ bottom ∷ []) → with_id id m.deques ≡ 0
      → May s m worker (steals (length left) id)
      (stolen m worker true
      (left ++ deque_of victim.id victim.owner (first ∷ others) ∷ deque_of id (Some worker) (bottom ∷ []) ∷ right))
  -- An idle worker takes over a deque without an owner that holds one thread. The new period is marked ahead if there is a
  -- deque to the left.
  takes_over : (left right : List Deque) (thread : List ℕ) (id : ℕ)
      → IsIdle s m worker → length left < s.workers
      → m.deques ≡ left ++ deque_of id None (thread ∷ []) ∷ right
      → May s m worker (steals (length left) id)
      (stolen m worker (nat_lt 0 (length left)) (left ++ deque_of id (Some worker) (thread ∷ []) ∷ right))
  -- A Fork puts the child on top.
  forks_child : (o : Owns m worker) (place child : ℕ) → IsAtTop s m o.top place (forks child)
      → charged s.quota s.list o.book.ran + record_words ≤ s.quota
      → May s m worker (does place) (booked_with m worker o (fork_of o.top child ∷ o.top ∷ o.under) place)
  -- A Join comes when the child has ended.
  joins_child : (o : Owns m worker) (place child : ℕ) → IsAtTop s m o.top place (joins child) → HasEnded s m (fork_of o.top child)
      → May s m worker (does place) (only_booked m worker o place)
  -- An Alloc that the quota covers comes if the period has that much of its quota left.
  allocates_within : (o : Owns m worker) (place : ℕ) → IsAtTop s m o.top place allocates → words_at s.list place ≤ s.quota
      → charged s.quota s.list o.book.ran + words_at s.list place ≤ s.quota → May s m worker (does place) (only_booked m worker o place)
  -- An Alloc that the quota does not cover comes after its dummies, and takes nothing of the quota.
  allocates_above : (o : Owns m worker) (place : ℕ) → IsAtTop s m o.top place allocates → s.quota < words_at s.list place
      → May s m worker (does place) (only_booked m worker o place)
  releases_words : (o : Owns m worker) (place : ℕ) → IsAtTop s m o.top place releases
      → May s m worker (does place) (only_booked m worker o place)
  meets_fault : (o : Owns m worker) (place : ℕ) → IsAtTop s m o.top place faults
      → May s m worker (does place) (only_booked m worker o place)
  -- With a Dummy the period ends, and the deque stays without an owner.
  runs_dummy : (o : Owns m worker) (place : ℕ) → IsAtTop s m o.top place dummy
      → May s m worker (does place) (moment_of (deques_with o None (o.top ∷ o.under)) m.waiting (books_with o None place))
  -- At an End with the parent directly below, the parent runs next in the same period.
  ends_above_parent : (o : Owns m worker) (place child : ℕ) (parent : List ℕ) (below : List (List ℕ)) → IsAtTop s m o.top place ends
      → o.under ≡ parent ∷ below → o.top ≡ fork_of parent child
      → May s m worker (does place) (booked_with m worker o o.under place)
  -- If the parent waits for this child, it takes its place and runs next in the same period.
  ends_and_wakes : (o : Owns m worker) (place : ℕ) (before after : List Waiting) (parent : Waiting) → IsAtTop s m o.top place ends
      → o.under ≡ [] → m.waiting ≡ before ++ parent ∷ after → o.top ≡ fork_of parent.thread parent.child
      → May s m worker (does place)
      (moment_of (deques_with o (Some worker) (parent.thread ∷ [])) (before ++ after) (books_with o (Some worker) place))
  -- Otherwise the deque leaves the list and the period ends, as it does at the End of the root.
  ends_and_leaves : (o : Owns m worker) (place : ℕ) → IsAtTop s m o.top place ends
      → o.under ≡ [] → Each (λ waits. o.top ≢ fork_of waits.thread waits.child) m.waiting
      → May s m worker (does place) (moment_of (o.left ++ o.right) m.waiting (books_with o None place))
  -- At a Join whose child has not ended, the thread waits, its deque is empty and leaves the list, and the period ends.
  suspends_top : (o : Owns m worker) (place child : ℕ) → IsAtTop s m o.top place (joins child) → ¬ HasEnded s m (fork_of o.top child)
      → o.under ≡ []
      → May s m worker suspends
      (moment_of (o.left ++ o.right) (record { thread = o.top; child = child } ∷ m.waiting) (books_closed o))
  -- A worker may give its deque up at any time: the deque stays without an owner, and the period ends.
  gives_deque_up : (o : Owns m worker)
      → May s m worker gives_up (moment_of (deques_with o None (o.top ∷ o.under)) m.waiting (books_closed o))
