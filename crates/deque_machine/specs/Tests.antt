-- Tests on labels and lists, for a machine that is computed.
use Rattle.std.specs.Prelude.{ℕ, zero, suc, Bool, true, false, cond, not, ◌&&◌, ◌||◌, nat_eq, nat_lt, Option, None, Some, List, [], ◌∷◌, length}
use Rattle.dag_order.specs.LabelOrder.{fork_of}
use Rattle.depth_first_run.specs.Passed.Actions.{Deed, forks, joins, allocates, releases, dummy, faults, ends, Action}
use Rattle.depth_first_run.specs.Passed.Facts.{label_at, deed_at}
use Rattle.deque_machine.specs.Moments.{Deque, Waiting}
use Rattle.deque_machine.specs.Books.{Book}

-- whether two labels are the same
abbrev pub same_label : List ℕ → List ℕ → Bool
same_label [] [] = true
same_label [] (y ∷ b) = false
same_label (x ∷ a) [] = false
same_label (x ∷ a) (y ∷ b) = nat_eq x y && same_label a b

-- whether all actions of a thread among the first n of the list are done
abbrev pub did_all : List Action → (ℕ → ℕ) → List ℕ → ℕ → Bool
did_all l done thread zero = true
did_all l done thread (suc n) = did_all l done thread n && (not (same_label (label_at l n) thread) || nat_lt 0 (done n))

-- whether the action at a place is the next one of a thread
abbrev pub is_next : List Action → (ℕ → ℕ) → List ℕ → ℕ → Bool
is_next l done thread place =
    nat_lt place (length l) && (same_label (label_at l place) thread && (nat_eq (done place) 0 && did_all l done thread place))

-- the next place of a thread among n places from one on
abbrev pub next_from : List Action → (ℕ → ℕ) → List ℕ → ℕ → ℕ → Option ℕ
next_from l done thread place zero = None
next_from l done thread place (suc n) = cond (is_next l done thread place) (Some place) (next_from l done thread (suc place) n)

abbrev pub is_end : Deed → Bool
is_end (forks child) = false
is_end (joins child) = false
is_end allocates = false
is_end releases = false
is_end dummy = false
is_end faults = false
is_end ends = true

-- whether the End of a thread is done, among the first n actions
abbrev pub ended_by : List Action → (ℕ → ℕ) → List ℕ → ℕ → Bool
ended_by l done thread zero = false
ended_by l done thread (suc n) =
    ended_by l done thread n || (same_label (label_at l n) thread && (is_end (deed_at l n) && nat_lt 0 (done n)))

-- a list with one element taken out
pub record Cut (X : Type 0) : Type 0 where
  pub left : List X
  pub here : X
  pub right : List X

-- with one element more in front
abbrev pub behind : {X : Type 0} → X → Option (Cut X) → Option (Cut X)
behind x None = None
behind x (Some c) = Some (record { left = x ∷ c.left; here = c.here; right = c.right })

-- the first element that passes
abbrev pub cut_first : {X : Type 0} → (X → Bool) → List X → Option (Cut X)
cut_first passes [] = None
cut_first passes (x ∷ xs) = cond (passes x) (Some (record { left = []; here = x; right = xs })) (behind x (cut_first passes xs))

-- the element at a place
abbrev pub cut_at : {X : Type 0} → ℕ → List X → Option (Cut X)
cut_at place [] = None
cut_at zero (x ∷ xs) = Some (record { left = []; here = x; right = xs })
cut_at (suc place) (x ∷ xs) = behind x (cut_at place xs)

-- a list that is not empty, without its last element, and this
abbrev pub front_of : {X : Type 0} → X → List X → List X
front_of x [] = []
front_of x (y ∷ ys) = x ∷ front_of y ys

abbrev pub last_of : {X : Type 0} → X → List X → X
last_of x [] = x
last_of x (y ∷ ys) = last_of y ys

-- whether a label is that of a fork of a thread
abbrev pub is_fork_of : List ℕ → List ℕ → Bool
is_fork_of thread [] = false
is_fork_of thread (x ∷ xs) = same_label (front_of x xs) thread

abbrev pub is_owner : ℕ → Option ℕ → Bool
is_owner worker None = false
is_owner worker (Some owner) = nat_eq worker owner

abbrev pub owns_it : ℕ → Deque → Bool
owns_it worker deque = is_owner worker deque.owner

abbrev pub open_for_it : ℕ → Book → Bool
open_for_it worker book = is_owner worker book.owner

-- whether a thread waits for this one
abbrev pub waits_for : List ℕ → Waiting → Bool
waits_for thread waits = same_label thread (fork_of waits.thread waits.child)
