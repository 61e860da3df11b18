-- What a call on the list and on the periods is on the parts, for every action that its caller has done.
use Rattle.std.specs.Prelude.{◌≡◌, ◌≢◌, ℕ, ◌+◌, ◌<◌, ◌≤◌, true, false, nat_lt, Bool, Option, None, Some, List, [], ◌∷◌, ◌++◌, length, pos, ◌+ℤ◌}
use Rattle.dag_order.specs.declared.action_id.ActionId.{ActionId}
use Rattle.dag_order.specs.LabelOrder.{fork_of}
use Rattle.deque_list.specs.declared.deque_id.DequeId.{DequeId}
use Rattle.deque_list.specs.Deques.{Deque}
use Rattle.deque_list.specs.DequeLists.{ListView}
use Rattle.open_periods.specs.Passed.Actions.{Deed, forks, dummy, joins, ends, Action, record_words}
use Rattle.open_periods.specs.Passed.Facts.{words_at, weight_at}
use Rattle.open_periods.specs.Passed.Books.{charge_at}
use Rattle.open_periods.specs.Periods.{Period}
use Rattle.open_periods.specs.Names.{id_of}
use Rattle.open_periods.specs.declared.table.PeriodTable.{PeriodTable}
use Rattle.open_periods.specs.Tables.{period_at}
use Rattle.moment_shown.specs.Parts as parts
use Rattle.open_periods.specs.Passed.Lists.{Each}
use Rattle.moment_shown.specs.Events.{IsNextOf, HasActed, MayDo, IsLeftBy, name_of, Does, GivesUp, Suspends, Steals}
use Rattle.list_changes.specs.Shown.{parts_of, Stands, parts_under, Holds}

-- A thread `was` on top did the action of this name at a place, which takes so many words of the quota, and is `top` now: an Alloc, a
-- Release or a Fault that its period may still do.
pub record DidAlone (k : ℕ) (l : List Action) (period : Period) (was top : parts.Thread) (name : ActionId) (words place : ℕ) : Type 0 where
  pub deed : Deed
  pub next : IsNextOf l was place deed
  pub may : MayDo k period.used deed (words_at l place)
  pub acted : HasActed was top
  pub children : top.children ≡ was.children
  pub weighs : pos top.words ≡ pos was.words +ℤ weight_at l place
  pub named : name ≡ name_of was
  pub charged : words ≡ charge_at k l place

-- it did a Dummy
pub record DidDummy (k : ℕ) (l : List Action) (was top : parts.Thread) (name : ActionId) (words place : ℕ) : Type 0 where
  pub next : IsNextOf l was place dummy
  pub acted : HasActed was top
  pub children : top.children ≡ was.children
  pub same_words : top.words ≡ was.words
  pub named : name ≡ name_of was
  pub charged : words ≡ charge_at k l place

-- it joined its newest open child, whose result was handed to it
pub record DidJoin (k : ℕ) (l : List Action) (was top : parts.Thread) (name : ActionId) (words place : ℕ) : Type 0 where
  pub newest : parts.Child
  pub older : List parts.Child
  pub children_were : was.children ≡ newest ∷ older
  pub given : newest.delivered ≡ true
  pub next : IsNextOf l was place (joins newest.ordinal)
  pub acted : HasActed was top
  pub children : top.children ≡ older
  pub weighs : pos top.words ≡ pos was.words +ℤ weight_at l place
  pub named : name ≡ name_of was
  pub charged : words ≡ charge_at k l place

-- it forked a child, whose birth is the next one of the period
pub record DidFork (k : ℕ) (l : List Action) (period : Period) (was top child : parts.Thread) (name : ActionId) (words place ordinal : ℕ)
    : Type 0 where
  pub next : IsNextOf l was place (forks ordinal)
  pub fits : period.used + record_words ≤ k
  pub acted : HasActed was top
  pub child_id : child.id ≡ id_of period (length period.born)
  pub child_parent : child.parent ≡ Some was.id
  pub child_label : child.label ≡ fork_of was.label ordinal
  pub child_done : child.done ≡ 0
  pub child_children : child.children ≡ []
  pub children : top.children ≡ record { id = child.id; ordinal = ordinal; func = child.func; delivered = false } ∷ was.children
  pub sum : top.words + child.words ≡ was.words + record_words
  pub named : name ≡ name_of was
  pub charged : words ≡ charge_at k l place

-- the parts with the thread as it was on top of the worker's deque become those of the list and the table behind a call
abbrev pub BecomesBy : {T : Type 0} → (worker : ℕ) → DequeId → List T → ListView T → PeriodTable → ListView T → PeriodTable
    → ((T → parts.Thread) → ℕ → List Action → Period → parts.Thread → ℕ → Type 0) → Type 0
BecomesBy {T} worker id items before table after next Did =
    (shown : T → parts.Thread) (waiting : List parts.Thread) (results : List parts.Result) (k : ℕ) (l : List Action) (period : Period)
    (was : parts.Thread) (place : ℕ) (stands : Stands before worker id items) → period_at table worker ≡ Some period
    → Did shown k l period was place
    → Does k l (parts_under shown waiting results stands table was) worker place (parts_of shown waiting results after next)

-- it ended, and left a result
pub record DidEnd (l : List Action) (was : parts.Thread) (name : ActionId) (place : ℕ) (result : parts.Result) : Type 0 where
  pub next : IsNextOf l was place ends
  pub left_by : IsLeftBy l was place result
  pub named : name ≡ name_of was

-- with its parent directly below
abbrev pub EndsAbove : {T : Type 0} → (worker : ℕ) → DequeId → ListView T → PeriodTable → PeriodTable → ActionId → Type 0
EndsAbove {T} worker id list table after name =
    (shown : T → parts.Thread) (waiting : List parts.Thread) (results : List parts.Result) (k : ℕ) (l : List Action) (period : Period)
    (was : parts.Thread) (place : ℕ) (result : parts.Result) (parent : T) (below : List T) (stands : Stands list worker id (parent ∷ below))
    → period_at table worker ≡ Some period → DidEnd l was name place result
    → Does k l (parts_under shown waiting results stands table was) worker place (parts_of shown waiting (result ∷ results) list after)

-- alone in its deque, and its parent, which waited for it, takes its place
abbrev pub EndsAndWakes : {T : Type 0} → (worker : ℕ) → DequeId → ListView T → PeriodTable → ListView T → PeriodTable → ActionId → T → Type 0
EndsAndWakes {T} worker id before table next after name parent =
    (shown : T → parts.Thread) (waiting front back : List parts.Thread) (results : List parts.Result) (k : ℕ) (l : List Action) (period : Period)
    (was : parts.Thread) (place : ℕ) (result : parts.Result) (newest : parts.Child) (older : List parts.Child)
    (stands : Stands before worker id []) → period_at table worker ≡ Some period → DidEnd l was name place result
    → waiting ≡ front ++ shown parent ∷ back → parts.Thread.children (shown parent) ≡ newest ∷ older → newest.id ≡ was.id
    → Does k l (parts_under shown waiting results stands table was) worker place (parts_of shown (front ++ back) (result ∷ results) next after)

-- alone in its deque, and nobody waits for it
abbrev pub EndsAndLeaves : {T : Type 0} → (worker : ℕ) → DequeId → ListView T → PeriodTable → ListView T → PeriodTable → ActionId → Type 0
EndsAndLeaves {T} worker id before table next after name =
    (shown : T → parts.Thread) (waiting : List parts.Thread) (results : List parts.Result) (k : ℕ) (l : List Action) (period : Period)
    (was : parts.Thread) (place : ℕ) (result : parts.Result) (stands : Stands before worker id [])
    → period_at table worker ≡ Some period → DidEnd l was name place result
    → Each (λ x. (newest : parts.Child) (older : List parts.Child) → x.children ≡ newest ∷ older → was.parent ≡ Some x.id → newest.id ≢ was.id) waiting
    → Does k l (parts_under shown waiting results stands table was) worker place (parts_of shown waiting (result ∷ results) next after)

-- the worker gave its deque up, with the top thread on it
abbrev pub GaveUp : {T : Type 0} → (worker : ℕ) → DequeId → List T → ListView T → PeriodTable → ListView T → PeriodTable → T → Type 0
GaveUp {T} worker id items before table next after top =
    (shown : T → parts.Thread) (waiting : List parts.Thread) (results : List parts.Result) (period : Period) (stands : Stands before worker id items)
    → period_at table worker ≡ Some period
    → GivesUp (parts_under shown waiting results stands table (shown top)) worker (parts_of shown waiting results next after)

-- the top thread, alone in its deque, waits for its newest open child, whose result is not there
abbrev pub Suspended : {T : Type 0} → (worker : ℕ) → DequeId → ListView T → PeriodTable → ListView T → PeriodTable → Type 0
Suspended {T} worker id before table next after =
    (shown : T → parts.Thread) (waiting : List parts.Thread) (results : List parts.Result) (l : List Action) (period : Period)
    (was : parts.Thread) (place : ℕ) (newest : parts.Child) (older : List parts.Child) (stands : Stands before worker id [])
    → period_at table worker ≡ Some period → IsNextOf l was place (joins newest.ordinal) → was.children ≡ newest ∷ older
    → newest.delivered ≡ false → Each (λ result. result.id ≢ newest.id) results
    → Suspends l (parts_under shown waiting results stands table was) worker (parts_of shown (was ∷ waiting) results next after)

-- The worker, which owned no deque, stole from the deque at a place. What is to the left and to the right of it stays.
abbrev pub Stole : {T : Type 0} → (worker : ℕ) → (before : ListView T) → PeriodTable → ListView T → PeriodTable → (left : List (Deque T)) → (new : DequeId)
    → Type 0
Stole {T} worker before table next after left new =
    (shown : T → parts.Thread) (waiting : List parts.Thread) (results : List parts.Result) (workers : ℕ) → worker < workers
    → Each (λ deque. Deque.owner deque ≢ Some worker) before.deques → length left < workers
    → Steals workers table.begun (parts_of shown waiting results before table) worker (length left) new.0
    (parts_of shown waiting results next after)

-- from a deque that keeps other threads, into a new one to the right of it
abbrev pub StoleBeside : {T : Type 0} → (worker : ℕ) → DequeId → ListView T → PeriodTable → ListView T → PeriodTable → DequeId → Type 0
StoleBeside {T} worker victim before table next after new =
    (owner : Option ℕ) (first : T) (others : List T) (bottom : T) (holds : Holds before victim owner (first ∷ (others ++ bottom ∷ [])))
    → Stole worker before table next after (Holds.left holds) new

-- a deque without an owner that holds one thread
abbrev pub TookOver : {T : Type 0} → (worker : ℕ) → DequeId → ListView T → PeriodTable → ListView T → PeriodTable → Bool → Type 0
TookOver {T} worker victim before table next after ahead =
    (thread : T) (holds : Holds before victim None (thread ∷ [])) → ahead ≡ nat_lt 0 (length (Holds.left holds))
    → Stole worker before table next after (Holds.left holds) victim
