-- The machine of a ready list: which events may come at a moment, and what each of them does.
use Rattle.std.specs.Prelude.{◌≡◌, ◌≢◌, ℕ, ◌+◌, ◌≤◌, nat_lt, None, Some, List, [], ◌∷◌, ◌++◌, length}
use Rattle.dag_order.specs.LabelOrder.{fork_of}
use Rattle.depth_first_list.specs.Actions.{forks, record_words}
use Rattle.depth_first_list.specs.Facts.{deed_at}
use Rattle.deque_machine.specs.Books.{charged}
use Rattle.deque_machine.specs.Moments.{Deque, Moment, moment_of}
use Rattle.deque_machine.specs.Machine.{Setting, Event, steals, does, suspends, gives_up, Owns, books_with, IsAtTop, IsIdle, stolen, May}
use Rattle.deque_machine.specs.Runs.{Pair}
use Rattle.deque_machine.specs.Play.{IsForced}
use Rattle.ready_machine.specs.Entries.{entry, IsLeftmostReady, IsLeastFree}

-- an event that is the same in the machine of deques: any but a Take and a Fork
abbrev pub IsShared : Setting → Event → Type 0
IsShared s (steals place id) = ⊥
IsShared s (does place) = (child : ℕ) → deed_at s.list place ≢ forks child
IsShared s suspends = Unit {0}
IsShared s gives_up = Unit {0}

-- `MayReady s m worker event after`: at the moment m of a ready list the worker may do the event, and then the moment is `after`.
pub data MayReady (s : Setting) (m : Moment) (worker : ℕ) : Event → Moment → Type 0 where
  -- A Take: an idle worker runs the leftmost ready entry. A period begins, which is marked ahead if an entry is to the left of this one.
  takes : (left right : List Deque) (thread : List ℕ) (id : ℕ) → IsIdle s m worker → IsLeftmostReady m.deques left id thread right
      → MayReady s m worker (steals (length left) id)
      (stolen m worker (nat_lt 0 (length left)) (left ++ entry id (Some worker) thread ∷ right))
  -- A Fork puts the child's entry directly left of the thread's. The worker runs the child, and the thread is ready, under the least free
  -- id.
  forks_left : (o : Owns m worker) (place child new : ℕ) → IsAtTop s m o.top place (forks child)
      → charged s.quota s.list o.book.ran + record_words ≤ s.quota → IsLeastFree m.deques new
      → MayReady s m worker (does place)
      (moment_of (o.left ++ entry o.id (Some worker) (fork_of o.top child) ∷ entry new None o.top ∷ o.right) m.waiting
      (books_with o (Some worker) place))
  -- Any other action, a thread that has to wait, and an entry that is given up are those of the machine of deques. So at the End of a
  -- thread its entry leaves the list, unless the parent waits for it and takes its place.
  as_with_deques : (event : Event) (after : Moment) → IsShared s event → May s m worker event after → MayReady s m worker event after

-- these events may come one after another from the first moment on, and reach the last
abbrev pub ReadyReaches : Setting → Moment → List Pair → Moment → Type 0
ReadyReaches s first [] last = first ≡ last
ReadyReaches s first (pair ∷ later) last =
    (next : Moment) × MayReady s first pair.worker pair.event next × ReadyReaches s next later last

-- no give up of a run is free: each comes where the next action takes more of the quota than is left
abbrev pub NoneGivenFree : (s : Setting) (first : Moment) (run : List Pair) (last : Moment) → ReadyReaches s first run last → Type 0
NoneGivenFree s first [] last reaches = Unit {0}
NoneGivenFree s first (pair ∷ later) last reaches = (pair.event ≡ gives_up → IsForced s first pair.worker) ×
    NoneGivenFree s reaches.0 later last reaches.2
