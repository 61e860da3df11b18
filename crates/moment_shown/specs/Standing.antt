-- Which moment of the machine the parts show.
use Rattle.std.specs.Prelude.{◌≡◌, ℕ, ◌<◌, ◌⊎◌, true, Some, List, ◌∷◌, length, map, pos}
use Rattle.open_periods.specs.Passed.ThreadId.{ThreadId}
use Rattle.open_periods.specs.Passed.LabelOrder.{fork_of}
use Rattle.open_periods.specs.Passed.Actions.{forks, joins, ends, Action}
use Rattle.open_periods.specs.Passed.Facts.{label_at, deed_at, HasDone}
use Rattle.deque_machine.specs.Lists.{Among, Each, Differ}
use Rattle.deque_machine.specs.Moments.{Moment, Waiting, done_at, live_at}
use Rattle.open_periods.specs.Names.{HasLabel}
use Rattle.open_periods.specs.Telling.{Tell}
use Rattle.moment_shown.specs.Parts.{Child, Thread, Result, Parts, IsIn, IsKept, words_of, label_of, deque_shown}

-- the End of a thread is done
abbrev pub EndedIn : List Action → (ℕ → ℕ) → List ℕ → Type 0
EndedIn l done label = (e : ℕ) × (e < length l) × (label_at l e ≡ label) × (deed_at l e ≡ ends) × (0 < done e)

-- An open child of the thread with this id and label is what its parent says: its Fork is done; once it has ended, its result was handed to
-- the parent or is kept, and not both; and whoever has its label is it.
pub record ChildStands (l : List Action) (done : ℕ → ℕ) (parts : Parts) (id : ThreadId) (label : List ℕ) (child : Child) : Type 0 where
  pub labelled : HasLabel parts.periods child.id (fork_of label child.ordinal)
  pub forked : (f : ℕ) × (f < length l) × (label_at l f ≡ label) × (deed_at l f ≡ forks child.ordinal) × (0 < done f)
  pub ended : EndedIn l done (fork_of label child.ordinal) → (child.delivered ≡ true) ⊎ IsKept parts.results child.id
  pub delivered : child.delivered ≡ true → EndedIn l done (fork_of label child.ordinal) × (¬ IsKept parts.results child.id)
  pub is_thread : (y : Thread) → IsIn y parts → y.label ≡ fork_of label child.ordinal
      → (y.id ≡ child.id) × (y.parent ≡ Some id) × (y.func ≡ child.func)
  pub is_result : (r : Result) → Among r parts.results → r.label ≡ fork_of label child.ordinal → (r.id ≡ child.id) × (r.func ≡ child.func)

-- its open children are all those that it forked and has not joined, one for each ordinal
abbrev pub HasAllChildren : List Action → (ℕ → ℕ) → List ℕ → List Child → Type 0
HasAllChildren l done label children =
    (f ordinal : ℕ) → f < length l → label_at l f ≡ label → deed_at l f ≡ forks ordinal → 0 < done f
    → ((j : ℕ) → j < length l → label_at l j ≡ label → deed_at l j ≡ joins ordinal → done j ≡ 0)
    → (child : Child) × Among child children × (child.ordinal ≡ ordinal)

abbrev pub ordinal_of : Child → ℕ
ordinal_of child = child.ordinal

-- a thread is what it says: its label is that of its id, it has done the first of its actions, as many as it counts, and its children stand
pub record ThreadStands (l : List Action) (done : ℕ → ℕ) (parts : Parts) (x : Thread) : Type 0 where
  pub labelled : HasLabel parts.periods x.id x.label
  pub has_done : HasDone l done x.label x.done
  pub children : Each (ChildStands l done parts x.id x.label) x.children
  pub all_children : HasAllChildren l done x.label x.children
  pub ordinals_differ : Differ (map ordinal_of x.children)

-- a result is that of a thread that has ended
pub record ResultStands (l : List Action) (done : ℕ → ℕ) (parts : Parts) (r : Result) : Type 0 where
  pub labelled : HasLabel parts.periods r.id r.label
  pub ended : EndedIn l done r.label

abbrev pub result_label : Result → List ℕ
result_label r = r.label

-- a waiting thread waits for its newest open child
abbrev pub IsWaiting : Thread → Waiting → Type 0
IsWaiting x waits =
    (waits.thread ≡ x.label) × (newest : Child) × (older : List Child) × (x.children ≡ newest ∷ older) × (waits.child ≡ newest.ordinal)

-- The parts show a moment, over the list l with a quota of k words.
pub record Shows (k : ℕ) (l : List Action) (parts : Parts) (m : Moment) : Type 0 where
  pub deques : m.deques ≡ map deque_shown parts.deques
  pub waits : Each (λ x. (w : Waiting) × Among w m.waiting × IsWaiting x w) parts.waiting
  pub waiting : Each (λ w. (x : Thread) × Among x parts.waiting × IsWaiting x w) m.waiting
  pub wait_once : Differ (map label_of parts.waiting)
  pub books : Tell k l parts.periods m.books
  pub threads : (x : Thread) → IsIn x parts → ThreadStands l (done_at m) parts x
  pub results : (r : Result) → Among r parts.results → ResultStands l (done_at m) parts r
  pub kept_once : Differ (map result_label parts.results)
  pub words : live_at l m ≡ pos (words_of parts)
