-- What holds of each moment of a ready list, and of its runs.
use Rattle.std.specs.Prelude.{◌≡◌, ◌↔◌, ℕ, ◌+◌, ◌*◌, ◌<◌, ◌≤◌, ◌⊎◌, None, Some, List, [], ◌∷◌, ◌++◌, length, pos, ◌+ℤ◌, ◌≤ℤ◌, ◌<ℤ◌}
use Rattle.dag_order.specs.LabelOrder.{fork_of}
use Rattle.depth_first_list.specs.Actions.{forks, live_words, record_words}
use Rattle.depth_first_list.specs.Facts.{deed_at, weight_at}
use Rattle.deque_machine.specs.Lists.{total}
use Rattle.deque_machine.specs.Books.{IsPrefix, periods_ahead, periods_marked, bound, booked}
use Rattle.deque_machine.specs.Moments.{Deque, Moment, opening, moment_of, deque_of, done_at, live_at}
use Rattle.deque_machine.specs.Machine.{Setting, Event, does, HasEnded, May}
use Rattle.deque_machine.specs.Runs.{Pair, moves, high_water_mark}
use Rattle.deque_machine.specs.Play.{CanMove, Wants, words_taken}
use Rattle.ready_machine.specs.Entries.{entry, IsLeastFree, IsReadyList}
use Rattle.ready_machine.specs.ReadyMachine.{MayReady, ReadyReaches, NoneGivenFree}
use Rattle.ready_machine.specs.ReadyPlay.{CanGo, WantsReady}

-- the opening moment is a lawful ready list
abbrev pub OpeningIsReady : Setting → Type 0
OpeningIsReady s = IsReadyList s opening

-- and each event leads from a lawful ready list to a lawful one
abbrev pub EventsKeepReady : Setting → Type 0
EventsKeepReady s = (m after : Moment) (worker : ℕ) (event : Event) → IsReadyList s m → MayReady s m worker event after
    → IsReadyList s after

-- so each moment of each run is one
abbrev pub ReachedIsReady : Setting → Type 0
ReachedIsReady s = (run : List Pair) (m : Moment) → ReadyReaches s opening run m → IsReadyList s m

-- at each moment of each run the words in use are at most the peak, and two quotas for each period ahead
abbrev pub BoundInReady : Setting → Type 0
BoundInReady s = (run : List Pair) (m : Moment) (n : ℕ) → ReadyReaches s opening run m → IsPrefix s.list (done_at m) n
    → live_at s.list m ≤ℤ bound s.quota s.list (periods_ahead n m.books)

-- the periods ahead are among the marked ones
abbrev pub ReadyAheadIsMarked : Setting → Type 0
ReadyAheadIsMarked s = (run : List Pair) (m : Moment) (n : ℕ) → ReadyReaches s opening run m → IsPrefix s.list (done_at m) n
    → periods_ahead n m.books ≤ periods_marked m.books

-- the words in use are the sum of the moves
abbrev pub ReadyMovesAreLive : Setting → Type 0
ReadyMovesAreLive s = (run : List Pair) (m : Moment) → ReadyReaches s opening run m → live_words (moves s.list run) ≡ live_at s.list m

-- the high-water mark is at most the peak, and two quotas for each marked period
abbrev pub ReadyMarkedBound : Setting → Type 0
ReadyMarkedBound s = (run : List Pair) (m : Moment) → ReadyReaches s opening run m
    → high_water_mark s.list run ≤ℤ bound s.quota s.list (periods_marked m.books)

-- along a run no mark is lost
abbrev pub ReadyMarksNeverFall : Setting → Type 0
ReadyMarksNeverFall s = (run : List Pair) (first last : Moment) → IsReadyList s first → ReadyReaches s first run last
    → periods_marked first.books ≤ periods_marked last.books

-- Where an action may come that an arena with room for the peak and two quotas for each of so many periods refuses, more periods would be
-- ahead after it.
abbrev pub ReadyArenaRefuses : Setting → Type 0
ReadyArenaRefuses s = (run : List Pair) (m after : Moment) (worker place n periods capacity : ℕ) → ReadyReaches s opening run m
    → MayReady s m worker (does place) after → bound s.quota s.list periods ≤ℤ pos capacity
    → pos capacity <ℤ (live_at s.list m +ℤ weight_at s.list place)
    → IsPrefix s.list (done_at after) n
    → periods < periods_ahead n after.books

-- a run in which the root has ended did each action of the list just once
abbrev pub ReadyEndedDidAll : Setting → Type 0
ReadyEndedDidAll s = (run : List Pair) (m : Moment) → ReadyReaches s opening run m → HasEnded s m [] → (place : ℕ) → place < length s.list
    → done_at m place ≡ 1

-- where the quota covers a Fork, a run without a free give up has at most three events for each action of the list, and one for each worker
abbrev pub ReadyRunsEnd : Setting → Type 0
ReadyRunsEnd s = record_words ≤ s.quota → (run : List Pair) (m : Moment) (reaches : ReadyReaches s opening run m)
    → NoneGivenFree s opening run m reaches → length run ≤ 3 * length s.list + s.workers

-- from a lawful ready list on, however it was reached, such a run has at most five events for each action that is done at its end, and two
-- for each worker
abbrev pub ReadyRunsAreShort : Setting → Type 0
ReadyRunsAreShort s = record_words ≤ s.quota → (first last : Moment) (run : List Pair) (reaches : ReadyReaches s first run last)
    → IsReadyList s first → NoneGivenFree s first run last reaches → length run ≤ 5 * length (booked last.books) + 2 * s.workers

-- what an action takes never fills an arena with room for all that the list takes
abbrev pub ReadyArenaNeverFills : Setting → Type 0
ReadyArenaNeverFills s = (run : List Pair) (m after : Moment) (worker place : ℕ) → ReadyReaches s opening run m
    → MayReady s m worker (does place) after
    → (live_at s.list m +ℤ weight_at s.list place) ≤ℤ pos (total words_taken s.list)

-- At a lawful ready list a worker can move in one machine if and only if it can in the other.
abbrev pub MoversAgree : Setting → Type 0
MoversAgree s = (m : Moment) (worker : ℕ) → IsReadyList s m → worker < s.workers → CanMove s m worker ↔ CanGo m worker

-- And the rules of both want the same of it with the word 0: the first deque with a thread to steal is then the leftmost ready entry.
abbrev pub WantsAgree : Setting → Type 0
WantsAgree s = (m : Moment) (worker : ℕ) (event : Event) → IsReadyList s m → worker < s.workers
    → Wants s m worker 0 event ↔ WantsReady s m worker event

-- Every event of a ready list except a Fork is one of the machine of deques, with the same moment after it.
abbrev pub AllButForksAreShared : Setting → Type 0
AllButForksAreShared s = (m after : Moment) (worker : ℕ) (event : Event) → IsReadyList s m → MayReady s m worker event after
    → May s m worker event after ⊎ ((place child : ℕ) × (event ≡ does place) × (deed_at s.list place ≡ forks child))

-- And a Fork is the machine's, after which the deque of two is cut in two: the worker keeps the upper one, and the lower one is ready.
abbrev pub ForksAreCut : Setting → Type 0
ForksAreCut s = (m : Moment) (worker place child : ℕ) (left right : List Deque) (id new : ℕ) (thread : List ℕ) (after : Moment)
    → IsReadyList s m → deed_at s.list place ≡ forks child → IsLeastFree m.deques new → May s m worker (does place) after
    → after.deques ≡ left ++ deque_of id (Some worker) (fork_of thread child ∷ thread ∷ []) ∷ right
    → MayReady s m worker (does place)
    (moment_of (left ++ entry id (Some worker) (fork_of thread child) ∷ entry new None thread ∷ right) after.waiting after.books)
