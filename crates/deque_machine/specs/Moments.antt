-- The moment of a run over deques.
use Rattle.std.specs.Prelude.{ℕ, cond, nat_eq, Option, None, Some, List, [], ◌∷◌, ◌++◌, ℤ}
use Rattle.depth_first_run.specs.Passed.Actions.{Action}
use Rattle.deque_machine.specs.Lists.{total, Each}
use Rattle.deque_machine.specs.Books.{Book, done_in, words_in_use}
use Rattle.dag_order.specs.LabelOrder.{Before}

-- A deque: its id, the worker that owns it, or none, and its threads from top to bottom, each told by its label. The
-- owner runs the top thread.
pub record Deque : Type 0 where
  pub id : ℕ
  pub owner : Option ℕ
  pub threads : List (List ℕ)

-- a thread that waits for one of its children
pub record Waiting : Type 0 where
  pub thread : List ℕ
  pub child : ℕ

-- A moment: the deques from left to right, the waiting threads, the latest first, and the books of all periods. What
-- is done is what stands in the books.
pub record Moment : Type 0 where
  pub deques : List Deque
  pub waiting : List Waiting
  pub books : List Book

-- the deque with this id, with this owner or none, and with these threads
abbrev pub deque_of : ℕ → Option ℕ → List (List ℕ) → Deque
deque_of id owner threads = record { id = id; owner = owner; threads = threads }

-- the moment with these deques, waiting threads and books
abbrev pub moment_of : List Deque → List Waiting → List Book → Moment
moment_of deques waiting books = record { deques = deques; waiting = waiting; books = books }

-- how often each action is done
abbrev pub done_at : Moment → ℕ → ℕ
done_at m = done_in m.books

-- the words in use
abbrev pub live_at : List Action → Moment → ℤ
live_at l m = words_in_use l m.books

-- the threads of the deques, from left to right and from top to bottom
abbrev pub threads_in : List Deque → List (List ℕ)
threads_in [] = []
threads_in (deque ∷ right) = deque.threads ++ threads_in right

-- the threads that wait
abbrev pub waiting_threads : List Waiting → List (List ℕ)
waiting_threads [] = []
waiting_threads (waits ∷ others) = waits.thread ∷ waiting_threads others

-- 1 for the worker itself
abbrev pub one_if_worker : ℕ → Option ℕ → ℕ
one_if_worker worker None = 0
one_if_worker worker (Some owner) = cond (nat_eq worker owner) 1 0

abbrev pub one_if_owned : ℕ → Deque → ℕ
one_if_owned worker deque = one_if_worker worker deque.owner

-- how many deques a worker owns
abbrev pub owned_by : ℕ → List Deque → ℕ
owned_by worker deques = total (one_if_owned worker) deques

abbrev pub one_if_open : ℕ → Book → ℕ
one_if_open worker book = one_if_worker worker book.owner

-- how many periods are open for a worker
abbrev pub open_for : ℕ → List Book → ℕ
open_for worker books = total (one_if_open worker) books

abbrev pub one_if_id : ℕ → Deque → ℕ
one_if_id id deque = cond (nat_eq id deque.id) 1 0

-- how many deques have an id
abbrev pub with_id : ℕ → List Deque → ℕ
with_id id deques = total (one_if_id id) deques

-- the first moment: one deque without an owner, which holds the root, and no book
abbrev pub opening : Moment
opening = moment_of (deque_of 0 None ([] ∷ []) ∷ []) [] []

-- each label is before all that stand behind it
abbrev pub Rises : List (List ℕ) → Type 0
Rises [] = Unit {0}
Rises (label ∷ behind) = Each (Before label) behind × Rises behind
