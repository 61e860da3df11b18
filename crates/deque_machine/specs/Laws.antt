-- What holds of each moment that the machine reaches, of runs and of plays.
use Rattle.std.specs.Prelude.{◌≡◌, ℕ, ◌<◌, ◌≤◌, List, [], length, pos, ◌+ℤ◌, ◌≤ℤ◌, ◌<ℤ◌, suc, ◌+◌, ◌*◌}
use Rattle.depth_first_run.specs.Passed.Actions.{live_words, record_words}
use Rattle.depth_first_run.specs.Passed.Runs.{IsDepthFirst}
use Rattle.depth_first_run.specs.Passed.Facts.{weight_at}
use Rattle.deque_machine.specs.Books.{IsPrefix, periods_ahead, periods_marked, bound, booked}
use Rattle.deque_machine.specs.Moments.{Moment, opening, done_at, live_at}
use Rattle.deque_machine.specs.Machine.{Setting, Event, does, May, HasEnded}
use Rattle.deque_machine.specs.LawfulOrder.{IsLawful}
use Rattle.deque_machine.specs.Runs.{Pair, Reaches, moves, high_water_mark}
use Rattle.deque_machine.specs.Lists.{total}
use Rattle.deque_machine.specs.Play.{NoneFree, words_taken, one_if_fork, Limits, Ending, finished, Wants, Turn, Plays}

-- a fact of each depth-first list, quota and number of workers
abbrev pub InEachSetting : (Setting → Type 0) → Type 0
InEachSetting Fact = (s : Setting) → 0 < s.quota → IsDepthFirst s.quota s.list → Fact s

-- the opening moment is lawful
abbrev pub OpeningIsLawful : Setting → Type 0
OpeningIsLawful s = IsLawful s opening

-- and each case of the machine leads from a lawful moment to a lawful one
abbrev pub EventsKeepLawful : Setting → Type 0
EventsKeepLawful s = (m after : Moment) (worker : ℕ) (event : Event) → IsLawful s m → May s m worker event after → IsLawful s after

-- so each moment of each run is lawful
abbrev pub ReachedIsLawful : Setting → Type 0
ReachedIsLawful s = (run : List Pair) (m : Moment) → Reaches s opening run m → IsLawful s m

-- at each moment of each run the words in use are at most the peak, and two quotas for each period ahead
abbrev pub BoundAlways : Setting → Type 0
BoundAlways s = (run : List Pair) (m : Moment) (n : ℕ) → Reaches s opening run m → IsPrefix s.list (done_at m) n
    → live_at s.list m ≤ℤ bound s.quota s.list (periods_ahead n m.books)

-- the periods ahead are among the marked ones
abbrev pub AheadIsMarked : Setting → Type 0
AheadIsMarked s = (run : List Pair) (m : Moment) (n : ℕ) → Reaches s opening run m → IsPrefix s.list (done_at m) n
    → periods_ahead n m.books ≤ periods_marked m.books

-- the words in use are the sum of the moves
abbrev pub MovesAreLive : Setting → Type 0
MovesAreLive s = (run : List Pair) (m : Moment) → Reaches s opening run m → live_words (moves s.list run) ≡ live_at s.list m

-- the high-water mark is at most the peak, and two quotas for each marked period
abbrev pub MarkedBound : Setting → Type 0
MarkedBound s = (run : List Pair) (m : Moment) → Reaches s opening run m →
    high_water_mark s.list run ≤ℤ bound s.quota s.list (periods_marked m.books)

-- along a run no mark is lost, so those of its end cover each moment before
abbrev pub MarksNeverFall : Setting → Type 0
MarksNeverFall s = (run : List Pair) (first last : Moment) → Reaches s first run last → periods_marked first.books ≤ periods_marked last.books

-- Where an action may come that an arena with room for the peak and two quotas for each of so many periods refuses, more
-- periods would be ahead behind it.
abbrev pub ArenaRefuses : Setting → Type 0
ArenaRefuses s = (run : List Pair) (m after : Moment) (worker place n periods capacity : ℕ) → Reaches s opening run m →
    May s m worker (does place) after → bound s.quota s.list periods ≤ℤ pos capacity
    → pos capacity <ℤ (live_at s.list m +ℤ weight_at s.list place)
    → IsPrefix s.list (done_at after) n
    → periods < periods_ahead n after.books

-- a run in which the root has ended did each action of the list just once
abbrev pub EndedDidAll : Setting → Type 0
EndedDidAll s = (run : List Pair) (m : Moment) → Reaches s opening run m → HasEnded s m [] → (place : ℕ) → place < length s.list →
    done_at m place ≡ 1

-- at a lawful moment what the rules want of a worker may come
abbrev pub WantedMayCome : Setting → Type 0
WantedMayCome s = (m : Moment) (worker word : ℕ) (event : Event) → IsLawful s m → worker < s.workers → Wants s m worker word event
    → (after : Moment) × May s m worker event after

-- and while the root has not ended, it is somebody's turn
abbrev pub SomebodysTurn : Setting → Type 0
SomebodysTurn s = (words : ℕ → ℕ) (n : ℕ) (m : Moment) → IsLawful s m → 0 < s.workers → ¬ HasEnded s m [] →
    (pair : Pair) × Turn s words n m pair

-- a play is a run of the machine in which no give up is free
abbrev pub PlaysAreRuns : Setting → Type 0
PlaysAreRuns s = (limits : Limits) (words : ℕ → ℕ) (run : List Pair) (last : Moment) (ending : Ending) →
    Plays s limits words 0 opening run last ending
    → (reaches : Reaches s opening run last) × NoneFree s opening run last reaches

-- there is a play for all words
abbrev pub PlaysEnd : Setting → Type 0
PlaysEnd s = record_words ≤ s.quota → 0 < s.workers → (limits : Limits) (words : ℕ → ℕ)
    → (run : List Pair) × (last : Moment) × (ending : Ending) × Plays s limits words 0 opening run last ending

-- with room for all words, actions and deques that the list can want, a play finishes
abbrev pub PlaysFinish : Setting → Type 0
PlaysFinish s = (limits : Limits) (words : ℕ → ℕ) (run : List Pair) (last : Moment) (ending : Ending)
    → total words_taken s.list ≤ limits.capacity → length s.list ≤ limits.actions → total one_if_fork s.list < limits.deques
    → Plays s limits words 0 opening run last ending → ending ≡ finished

-- where the quota covers a Fork, a run without a free give up has at most three events for each action of the list, and one
-- for each worker
abbrev pub RunsEnd : Setting → Type 0
RunsEnd s = record_words ≤ s.quota → (run : List Pair) (m : Moment) (reaches : Reaches s opening run m) →
    NoneFree s opening run m reaches → length run ≤ 3 * length s.list + s.workers

-- and from a lawful moment on, however it was reached, such a run has at most five events for each action that is done at its end, and
-- two for each worker
abbrev pub RunsAreShort : Setting → Type 0
RunsAreShort s = record_words ≤ s.quota → (first last : Moment) (run : List Pair) (reaches : Reaches s first run last) → IsLawful s first →
    NoneFree s first run last reaches → length run ≤ 5 * length (booked last.books) + 2 * s.workers

-- what an action takes never fills an arena with room for all that the list takes
abbrev pub ArenaNeverFills : Setting → Type 0
ArenaNeverFills s = (run : List Pair) (m after : Moment) (worker place : ℕ) → Reaches s opening run m → May s m worker (does place) after
    → (live_at s.list m +ℤ weight_at s.list place) ≤ℤ pos (total words_taken s.list)

-- there are never more deques than one and the Forks of the list
abbrev pub DequesAtMost : Setting → Type 0
DequesAtMost s = (run : List Pair) (m : Moment) → Reaches s opening run m → length m.deques ≤ suc (total one_if_fork s.list)
