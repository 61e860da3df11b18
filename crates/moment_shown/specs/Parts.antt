-- What the parts of a scheduler hold: threads in deques, threads that wait, results of ended threads, and periods.
use Rattle.std.specs.Prelude.{◌≡◌, ℕ, ◌+◌, ◌⊎◌, Bool, Option, None, List, [], ◌∷◌, map}
use Rattle.open_periods.specs.Passed.ThreadId.{ThreadId}
use Rattle.deque_machine.specs.Lists.{Among, total}
use Rattle.deque_machine.specs.Moments as machine
use Rattle.open_periods.specs.Periods.{Period}

-- An open child, as its parent keeps it: its id, which of the forks it is, the function in which it began, or none where it runs dummies, and
-- whether its result was handed to the parent.
pub record Child : Type 0 where
  pub id : ThreadId
  pub ordinal : ℕ
  pub func : Option ℕ
  pub delivered : Bool

-- A thread: its id and that of the thread that forked it, its label, how many actions it has done, the function in which it began, its open
-- children, the newest first, and the words of all that it holds, with its record and with what was handed to it.
pub record Thread : Type 0 where
  pub id : ThreadId
  pub parent : Option ThreadId
  pub label : List ℕ
  pub done : ℕ
  pub func : Option ℕ
  pub children : List Child
  pub words : ℕ

-- the result of an ended thread, which is kept for its Join, with the words of its blocks
pub record Result : Type 0 where
  pub id : ThreadId
  pub label : List ℕ
  pub func : Option ℕ
  pub words : ℕ

-- a deque, with its threads from top to bottom
pub record Deque : Type 0 where
  pub id : ℕ
  pub owner : Option ℕ
  pub threads : List Thread

-- the deques from left to right; the order of the other lists is of no account
pub record Parts : Type 0 where
  pub deques : List Deque
  pub waiting : List Thread
  pub results : List Result
  pub periods : List Period

-- a thread of the parts
abbrev pub IsIn : Thread → Parts → Type 0
IsIn x parts = ((deque : Deque) × Among deque parts.deques × Among x deque.threads) ⊎ Among x parts.waiting

-- a result of a thread with this id is kept
abbrev pub IsKept : List Result → ThreadId → Type 0
IsKept results id = (result : Result) × Among result results × (result.id ≡ id)

-- the words of all threads and results
abbrev pub thread_words : Thread → ℕ
thread_words x = x.words

abbrev pub deque_words : Deque → ℕ
deque_words deque = total thread_words deque.threads

abbrev pub result_words : Result → ℕ
result_words result = result.words

abbrev pub words_of : Parts → ℕ
words_of parts = total deque_words parts.deques + (total thread_words parts.waiting + total result_words parts.results)

-- the deque of the machine that a deque is
abbrev pub label_of : Thread → List ℕ
label_of x = x.label

abbrev pub deque_shown : Deque → machine.Deque
deque_shown deque = record { id = deque.id; owner = deque.owner; threads = map label_of deque.threads }

-- the first parts: one deque without an owner, which holds the root
abbrev pub parts_with_root : Thread → Parts
parts_with_root root = record {
  deques = record { id = 0; owner = None; threads = root ∷ [] } ∷ [];
  waiting = [];
  results = [];
  periods = [];
}
