-- The ready list of a moment: a list of deques with one thread each.
--
-- An entry is a deque with one thread. If it has an owner, that worker runs it; if not, it is ready. So a moment of a ready list is a
-- moment of deques, and what the machine of deques says of order, books, births and marks holds for it unchanged.
use Rattle.std.specs.Prelude.{◌≡◌, ◌≢◌, ℕ, ◌<◌, Option, None, List, [], ◌∷◌, ◌++◌}
use Rattle.deque_machine.specs.Lists.{Each}
use Rattle.deque_machine.specs.Moments.{Deque, Moment, deque_of, with_id}
use Rattle.deque_machine.specs.Machine.{Setting}
use Rattle.deque_machine.specs.LawfulOrder.{IsLawful}

-- the entry with an id, the worker that runs it, or none, and its thread
abbrev pub entry : ℕ → Option ℕ → List ℕ → Deque
entry id runs_it thread = deque_of id runs_it (thread ∷ [])

-- a deque is an entry: it has one thread
abbrev pub IsEntry : Deque → Type 0
IsEntry deque = (thread : List ℕ) × (deque.threads ≡ thread ∷ [])

-- a worker runs an entry
abbrev pub IsRun : Deque → Type 0
IsRun deque = deque.owner ≢ None

-- the leftmost ready entry: nobody runs it, and each entry to its left is run
pub record IsLeftmostReady (deques left : List Deque) (id : ℕ) (thread : List ℕ) (right : List Deque) : Type 0 where
  pub deques_are : deques ≡ left ++ entry id None thread ∷ right
  pub left_are_run : Each IsRun left

-- the least id that no entry has
pub record IsLeastFree (deques : List Deque) (id : ℕ) : Type 0 where
  pub free : with_id id deques ≡ 0
  pub none_less : (i : ℕ) → i < id → 0 < with_id i deques

-- The lawful ready list, with all else that holds at each moment of a run.
--
-- Of entries alone `lawful` says: the labels rise from left to right (`order.rises`); each live thread is just once in the list or among
-- the waiting, and each of these is live (`all_placed`, `all_live`, `apart`, `wait_once`); a waiting thread waits for a child that has not
-- ended (`waits`); a worker runs at most one entry (`owns_one`). The books are lawful (`periods.lawful`), the open ones are those of the
-- workers that run an entry, one each (`one_each`), whoever forks is the root or was born before (`births.parents_first`), and a thread
-- that a worker runs is the root or was born in a period that is not newer than the worker's (`births.owned_born`). Each period that is
-- ahead is marked (`begun`).
pub record IsReadyList (s : Setting) (m : Moment) : Type 0 where
  pub entries : Each IsEntry m.deques
  pub lawful : IsLawful s m
