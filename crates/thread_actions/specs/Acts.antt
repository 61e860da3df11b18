-- What a call does, for each program of which the thread does the next action.
use Rattle.std.specs.Prelude.{◌≡◌, ◌≢◌, ℕ, ◌+◌, ◌≤◌, List, [], ◌∷◌, ◌++◌, length, None, Some}
use Rattle.dag_order.specs.declared.action_id.ActionId.{ActionId}
use Rattle.dag_order.specs.declared.thread_id.ThreadId.{ThreadId}
use Rattle.deque_list.specs.declared.deque_id.DequeId.{DequeId}
use Rattle.deque_list.specs.DequeLists.{ListView}
use Rattle.depth_first_list.specs.Actions.{allocates, record_words}
use Rattle.open_periods.specs.Passed.Lists.{Each}
use Rattle.depth_first_list.specs.Facts.{words_at}
use Rattle.thread_points.specs.Passed.States.{Setting}
use Rattle.open_periods.specs.Passed.Books.{charge}
use Rattle.open_periods.specs.Periods.{Period}
use Rattle.open_periods.specs.Names.{id_of}
use Rattle.open_periods.specs.declared.table.PeriodTable.{PeriodTable}
use Rattle.open_periods.specs.Tables.{period_at}
use Rattle.thread_frames.specs.Passed.Parts as parts
use Rattle.thread_frames.specs.Passed.Events.{MayDo, Does}
use Rattle.thread_points.specs.Passed.Run.{list_of}
use Rattle.thread_frames.specs.Actions.{IsOfTheList}
use Rattle.thread_frames.specs.declared.ended.Ended.{Ended}
use Rattle.thread_frames.specs.declared.next.Next.{Next}
use Rattle.thread_frames.specs.declared.next.Next.TheVariants as nexts
use Rattle.thread_frames.specs.declared.next.Next.TheVariants.{Fork, Join, Alloc, Release, Dummy, Fault, End}
use Rattle.thread_frames.specs.declared.thread.Thread.{Thread}
use Rattle.node_table.specs.Table.{Table}
use Rattle.thread_frames.specs.Points.{IsAtPoint}
use Rattle.thread_frames.specs.Shown.{thread_shown, result_shown}
use Rattle.thread_frames.specs.Views.{done_of}
use Rattle.list_changes.specs.Events.{DidAlone, DidDummy, DidJoin, DidFork, DidEnd}
use Rattle.thread_actions.specs.declared.forked.Forked.{Forked}
use Rattle.list_changes.specs.Shown.{deque_with, parts_of, Stands, Becomes, parts_under}

-- The top thread of the worker's deque, which was taken out, does its next action. With the thread on top as it was, the parts become those
-- of the list and the table behind the call by what the machine does, where the period and the words of the action are such.
abbrev pub ActsBy : Next → (worker : ℕ) → DequeId → Thread → ListView Thread → PeriodTable → ListView Thread → PeriodTable
    → (ℕ → Period → ℕ → Type 0) → Type 0
ActsBy next worker id top before table after behind Where =
    (c : Setting) (k : ℕ) (is : IsOfTheList c top next) (items : List Thread) (waiting : List parts.Thread) (results : List parts.Result)
    (stands : Stands before worker id items) (period : Period) → period_at table worker ≡ Some period
    → Where k period (words_at (list_of c) (IsOfTheList.place is))
    → Does k (list_of c) (parts_under thread_shown waiting results stands table (thread_shown top)) worker (IsOfTheList.place is)
    (parts_of thread_shown waiting results after behind)

-- the name of the next action of a thread
abbrev pub next_name : Thread → ActionId
next_name thread = record { by = thread.id; index = done_of thread }

-- an Alloc may come, and takes so many words of the quota
abbrev pub AllocIsCharged : (charged : ℕ) → ℕ → Period → ℕ → Type 0
AllocIsCharged charged k period words = MayDo k period.used allocates words × (charged ≡ charge k allocates words)

-- nothing is asked
abbrev pub Always : ℕ → Period → ℕ → Type 0
Always k period words = Unit {0}

-- a Fork is within the quota
abbrev pub ForkFits : ℕ → Period → ℕ → Type 0
ForkFits k period words = period.used + record_words ≤ k

-- what an action asks of the period and the quota, where an Alloc uses so many words of it
abbrev pub IsCharged : (charge : ℕ) → Next → ℕ → Period → ℕ → Type 0
IsCharged charge Fork k period words = ForkFits k period words
IsCharged charge (Join child) k period words = Always k period words
IsCharged charge (Alloc asked) k period words = AllocIsCharged charge k period words
IsCharged charge (Release given) k period words = Always k period words
IsCharged charge Dummy k period words = Always k period words
IsCharged charge (Fault fault) k period words = Always k period words
IsCharged charge End k period words = Always k period words

-- The top thread ends, and its result is kept: with its parent directly below;
abbrev pub EndsAboveBy : (worker : ℕ) → DequeId → Thread → ListView Thread → PeriodTable → PeriodTable → Ended → Type 0
EndsAboveBy worker id top list table behind ended =
    (c : Setting) (k : ℕ) (is : IsOfTheList c top nexts.End) (parent : Thread) (below : List Thread) (waiting : List parts.Thread)
    (results : List parts.Result) (stands : Stands list worker id (parent ∷ below)) (period : Period) → period_at table worker ≡ Some period
    → Does k (list_of c) (parts_under thread_shown waiting results stands table (thread_shown top)) worker (IsOfTheList.place is)
    (parts_of thread_shown waiting (result_shown ended ∷ results) list behind)

-- alone in its deque, where its parent waited for it and takes its place;
abbrev pub EndsAndWakesBy : (worker : ℕ) → DequeId → Thread → Thread → ListView Thread → PeriodTable → ListView Thread → PeriodTable → Ended
    → Type 0
EndsAndWakesBy worker id top parent before table after behind ended =
    (c : Setting) (k : ℕ) (is : IsOfTheList c top nexts.End) (front back : List parts.Thread) (results : List parts.Result)
    (newest : parts.Child) (older : List parts.Child) (stands : Stands before worker id []) (period : Period)
    → period_at table worker ≡ Some period → parts.Thread.children (thread_shown parent) ≡ newest ∷ older → newest.id ≡ top.id
    → Does k (list_of c) (parts_under thread_shown (front ++ thread_shown parent ∷ back) results stands table (thread_shown top)) worker
    (IsOfTheList.place is) (parts_of thread_shown (front ++ back) (result_shown ended ∷ results) after behind)

-- or alone in its deque, where nobody waits for it
abbrev pub EndsAndLeavesBy : (worker : ℕ) → DequeId → Thread → ListView Thread → PeriodTable → ListView Thread → PeriodTable → Ended → Type 0
EndsAndLeavesBy worker id top before table after behind ended =
    (c : Setting) (k : ℕ) (is : IsOfTheList c top nexts.End) (waiting : List parts.Thread) (results : List parts.Result)
    (stands : Stands before worker id []) (period : Period) → period_at table worker ≡ Some period
    → Each (λ x. (newest : parts.Child) (older : List parts.Child) → x.children ≡ newest ∷ older → top.parent ≡ Some x.id → newest.id ≢ top.id) waiting
    → Does k (list_of c) (parts_under thread_shown waiting results stands table (thread_shown top)) worker (IsOfTheList.place is)
    (parts_of thread_shown waiting (result_shown ended ∷ results) after behind)

-- What a thread did under this name is, whatever the program, what the machine does with its next action: by itself, where its period may and
-- so many words of the quota are used;
abbrev pub ActedAlone : Next → (charge : ℕ) → (ℕ → Period → ℕ → Type 0) → Thread → Thread → ActionId → Type 0
ActedAlone next charge Where top after name =
    (c : Setting) (k : ℕ) (is : IsOfTheList c top next) (period : Period) → Where k period (words_at (list_of c) (IsOfTheList.place is))
    → DidAlone k (list_of c) period (thread_shown top) (thread_shown after) name charge (IsOfTheList.place is)

-- a Dummy;
abbrev pub ActedDummy : Thread → Thread → ActionId → Type 0
ActedDummy top after name = (c : Setting) (k : ℕ) (is : IsOfTheList c top nexts.Dummy)
    → DidDummy k (list_of c) (thread_shown top) (thread_shown after) name 0 (IsOfTheList.place is)

-- the Join of its newest open child;
abbrev pub ActedJoin : Thread → Thread → ActionId → Type 0
ActedJoin top after name = (c : Setting) (k : ℕ) (child : ThreadId) (is : IsOfTheList c top (nexts.Join child))
    → DidJoin k (list_of c) (thread_shown top) (thread_shown after) name 0 (IsOfTheList.place is)

-- a Fork, where the child has the id of the period's next birth;
abbrev pub ActedFork : ThreadId → Thread → Thread → Forked → Type 0
ActedFork id top after forked = (c : Setting) (k : ℕ) (is : IsOfTheList c top nexts.Fork) (period : Period)
    → id ≡ id_of period (length period.born) → ForkFits k period (words_at (list_of c) (IsOfTheList.place is))
    → DidFork k (list_of c) period (thread_shown top) (thread_shown after) (thread_shown (Forked.child forked)) (Forked.name forked) record_words
    (IsOfTheList.place is) (Forked.ordinal forked)

-- or its End, with this result
abbrev pub ActedEnd : Thread → ActionId → Ended → Type 0
ActedEnd top name ended = (c : Setting) (is : IsOfTheList c top nexts.End)
    → DidEnd (list_of c) (thread_shown top) name (IsOfTheList.place is) (result_shown ended)

-- whoever was at its point is so behind the action
abbrev pub StaysAtPoint : Thread → Thread → Type 0
StaysAtPoint top behind = (t : Table) (k : ℕ) → IsAtPoint t k top → IsAtPoint t k behind

-- the thread goes back on top, at its next point, and nobody else has moved
abbrev pub GoesBack : (worker : ℕ) → DequeId → Thread → ListView Thread → ListView Thread → Type 0
GoesBack worker id top before after =
    (behind : Thread) × ((items : List Thread) (stands : Stands before worker id items)
    → Becomes stands after (deque_with id (Some worker) (behind ∷ items) ∷ [])) × StaysAtPoint top behind

-- the same, and its deque stays without an owner
abbrev pub GoesBackUnowned : (worker : ℕ) → DequeId → Thread → ListView Thread → ListView Thread → Type 0
GoesBackUnowned worker id top before after =
    (behind : Thread) × ((items : List Thread) (stands : Stands before worker id items)
    → Becomes stands after (deque_with id None (behind ∷ items) ∷ [])) × StaysAtPoint top behind

-- the same with its owner and a child above it, which is at its point too
abbrev pub GoesBackWithChild : (worker : ℕ) → DequeId → Thread → ListView Thread → ListView Thread → Type 0
GoesBackWithChild worker id top before after =
    (behind : Thread) × ((child : Thread) × ((items : List Thread) (stands : Stands before worker id items)
    → Becomes stands after (deque_with id (Some worker) (child ∷ behind ∷ items) ∷ [])) × StaysAtPoint top behind × StaysAtPoint top child)
