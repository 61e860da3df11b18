-- The machine, computed: what an event of a worker leads to, or nothing where the machine has no such case.
use Rattle.std.specs.Prelude.{ℕ, suc, ◌+◌, Bool, true, cond, not, ◌&&◌, nat_eq, nat_lt, nat_le, Option, None, Some, List, [], ◌∷◌, ◌++◌, length}
use Rattle.std.specs.declared.result.Result.{Result}
use Rattle.std.specs.declared.result.Result.TheVariants.{Ok, Err}
use Rattle.dag_order.specs.LabelOrder.{fork_of}
use Rattle.depth_first_run.specs.Passed.Actions.{Deed, forks, joins, allocates, releases, dummy, faults, ends, record_words}
use Rattle.depth_first_run.specs.Passed.Facts.{deed_at, words_at}
use Rattle.deque_machine.specs.Books.{Book, charged, one_more, book_of}
use Rattle.deque_machine.specs.Moments.{Deque, Waiting, Moment, opening, done_at, owned_by, with_id}
use Rattle.deque_machine.specs.Machine.{Setting, Event, steals, does, suspends, gives_up, new_book}
use Rattle.deque_machine.specs.Runs.{Pair}
use Rattle.deque_machine.specs.Tests.{is_next, next_from, ended_by, Cut, cut_first, cut_at, front_of, last_of, is_fork_of, owns_it, open_for_it, waits_for}

-- what a worker has: the deque that it owns, cut out, its top thread and those below, and its open book, cut out
pub record Hand : Type 0 where
  pub deques : Cut Deque
  pub top : List ℕ
  pub under : List (List ℕ)
  pub books : Cut Book

abbrev pub hand_with : Cut Deque → Cut Book → List (List ℕ) → Option Hand
hand_with deques books [] = None
hand_with deques books (top ∷ under) = Some (record { deques = deques; top = top; under = under; books = books })

abbrev pub hand_by : Option (Cut Deque) → Option (Cut Book) → Option Hand
hand_by None books = None
hand_by (Some deques) None = None
hand_by (Some deques) (Some books) = hand_with deques books (deques.here).threads

abbrev pub hand_of : Moment → ℕ → Option Hand
hand_of m worker = hand_by (cut_first (owns_it worker) m.deques) (cut_first (open_for_it worker) m.books)

-- the deques and the books behind an event
abbrev pub deques_put : Hand → Option ℕ → List (List ℕ) → List Deque
deques_put h owner threads = (h.deques).left ++ record { id = ((h.deques).here).id; owner = owner; threads = threads } ∷ (h.deques).right

abbrev pub books_put : Hand → Option ℕ → ℕ → List Book
books_put h owner place = one_more (h.books).left (h.books).here (h.books).right owner place

abbrev pub books_shut : Hand → List Book
books_shut h = (h.books).left ++ book_of (h.books).here None ((h.books).here).ran ∷ (h.books).right

abbrev pub moment_of : List Deque → List Waiting → List Book → Moment
moment_of deques waiting books = record { deques = deques; waiting = waiting; books = books }

-- an answer where a test passes
abbrev pub where_true : Bool → Moment → Option Moment
where_true test m = cond test (Some m) None

-- an End, by who stands below and who waits
abbrev pub ended_alone : Moment → Hand → ℕ → ℕ → Option (Cut Waiting) → Option Moment
ended_alone m h worker place None = Some (moment_of ((h.deques).left ++ (h.deques).right) m.waiting (books_put h None place))
ended_alone m h worker place (Some w) =
    Some (moment_of (deques_put h (Some worker) ((w.here).thread ∷ [])) (w.left ++ w.right) (books_put h (Some worker) place))

abbrev pub ended_over : Moment → Hand → ℕ → ℕ → List (List ℕ) → Option Moment
ended_over m h worker place [] = ended_alone m h worker place (cut_first (waits_for h.top) m.waiting)
ended_over m h worker place (parent ∷ below) =
    where_true (is_fork_of parent h.top) (moment_of (deques_put h (Some worker) (parent ∷ below)) m.waiting
    (books_put h (Some worker) place))

-- the action at a place, by its deed
abbrev pub act_by : Setting → Moment → Hand → ℕ → ℕ → Deed → Option Moment
act_by s m h worker place (forks child) =
    where_true (nat_le (charged s.quota s.list ((h.books).here).ran + record_words) s.quota)
    (moment_of (deques_put h (Some worker) (fork_of h.top child ∷ h.top ∷ h.under)) m.waiting (books_put h (Some worker) place))
act_by s m h worker place (joins child) =
    where_true (ended_by s.list (done_at m) (fork_of h.top child) (length s.list))
    (moment_of m.deques m.waiting (books_put h (Some worker) place))
act_by s m h worker place allocates =
    where_true (cond (nat_le (words_at s.list place) s.quota)
    (nat_le (charged s.quota s.list ((h.books).here).ran + words_at s.list place) s.quota) true)
    (moment_of m.deques m.waiting (books_put h (Some worker) place))
act_by s m h worker place releases = Some (moment_of m.deques m.waiting (books_put h (Some worker) place))
act_by s m h worker place faults = Some (moment_of m.deques m.waiting (books_put h (Some worker) place))
act_by s m h worker place dummy = Some (moment_of (deques_put h None (h.top ∷ h.under)) m.waiting (books_put h None place))
act_by s m h worker place ends = ended_over m h worker place h.under

-- a thread that has to wait, at its next place, by the deed there
abbrev pub suspend_by : Setting → Moment → Hand → Deed → Option Moment
suspend_by s m h (joins child) =
    where_true (not (ended_by s.list (done_at m) (fork_of h.top child) (length s.list)) && nat_eq (length h.under) 0)
    (moment_of ((h.deques).left ++ (h.deques).right) (record { thread = h.top; child = child } ∷ m.waiting) (books_shut h))
suspend_by s m h other = None

abbrev pub suspend_at : Setting → Moment → Hand → Option ℕ → Option Moment
suspend_at s m h None = None
suspend_at s m h (Some place) = suspend_by s m h (deed_at s.list place)

-- a theft, by the threads of the victim
abbrev pub steal_from : Moment → ℕ → ℕ → Cut Deque → Option ℕ → List (List ℕ) → Option Moment
steal_from m worker id c owner [] = None
steal_from m worker id c None (thread ∷ []) = where_true (nat_eq id (c.here).id)
    (moment_of (c.left ++ record { id = (c.here).id; owner = Some worker; threads = thread ∷ [] } ∷ c.right)
    m.waiting (m.books ++ new_book worker (nat_lt 0 (length c.left)) ∷ []))
steal_from m worker id c (Some other) (thread ∷ []) = None
steal_from m worker id c owner (first ∷ second ∷ more) = where_true (nat_eq (with_id id m.deques) 0)
    (moment_of (c.left ++ record { id = (c.here).id; owner = (c.here).owner; threads = first ∷ front_of second more }
    ∷ record { id = id; owner = Some worker; threads = last_of second more ∷ [] } ∷ c.right)
    m.waiting (m.books ++ new_book worker true ∷ []))

abbrev pub steal_by : Moment → ℕ → ℕ → Option (Cut Deque) → Option Moment
steal_by m worker id None = None
steal_by m worker id (Some c) = steal_from m worker id c (c.here).owner (c.here).threads

abbrev pub does_by : Setting → Moment → ℕ → ℕ → Option Hand → Option Moment
does_by s m worker place None = None
does_by s m worker place (Some h) = cond (is_next s.list (done_at m) h.top place) (act_by s m h worker place (deed_at s.list place)) None

abbrev pub suspends_by : Setting → Moment → Option Hand → Option Moment
suspends_by s m None = None
suspends_by s m (Some h) = suspend_at s m h (next_from s.list (done_at m) h.top 0 (length s.list))

abbrev pub gives_up_by : Moment → Option Hand → Option Moment
gives_up_by m None = None
gives_up_by m (Some h) = Some (moment_of (deques_put h None (h.top ∷ h.under)) m.waiting (books_shut h))

-- what an event of a worker leads to
abbrev pub step : Setting → Moment → ℕ → Event → Option Moment
step s m worker (steals place id) =
    cond (nat_lt worker s.workers && (nat_eq (owned_by worker m.deques) 0 && nat_lt place s.workers))
    (steal_by m worker id (cut_at place m.deques)) None
step s m worker (does place) = does_by s m worker place (hand_of m worker)
step s m worker suspends = suspends_by s m (hand_of m worker)
step s m worker gives_up = gives_up_by m (hand_of m worker)

-- The moment that a list of pairs reaches, where n pairs came before, or the number, from 1, of the first pair that is no
-- case of the machine.
abbrev pub replay_on : Setting → ℕ → Option Moment → List Pair → Result Moment ℕ
replay_on s n None pairs = Err n
replay_on s n (Some m) [] = Ok m
replay_on s n (Some m) (pair ∷ later) = replay_on s (suc n) (step s m pair.worker pair.event) later

abbrev pub replay : Setting → List Pair → Result Moment ℕ
replay s pairs = replay_on s 0 (Some opening) pairs
