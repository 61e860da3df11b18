-- What holds of the plays of a ready list.
use Rattle.std.specs.Prelude.{◌≡◌, ℕ, ◌<◌, ◌≤◌, List, [], length, ℤ, pos, ◌≤ℤ◌}
use Rattle.depth_first_list.specs.Actions.{record_words}
use Rattle.depth_first_list.specs.Facts.{action_at}
use Rattle.deque_machine.specs.Lists.{total}
use Rattle.deque_machine.specs.Books.{IsPrefix, periods_ahead, bound}
use Rattle.deque_machine.specs.Moments.{Moment, opening, done_at}
use Rattle.deque_machine.specs.Machine.{Setting, Event, does, HasEnded}
use Rattle.deque_machine.specs.Runs.{Pair}
use Rattle.deque_machine.specs.Play.{Limits, Ending, arena_full, steps_spent, deques_full, finished, stopped, Meets, words_taken}
use Rattle.ready_machine.specs.Entries.{IsReadyList}
use Rattle.ready_machine.specs.ReadyMachine.{MayReady, ReadyReaches, NoneGivenFree}
use Rattle.ready_machine.specs.ReadyPlay.{WantsReady, ReadyTurn, ReadyPlays}
use Rattle.ready_machine.specs.ReadyFronts.{ReadyPlaysOn}

-- what the rules want of a worker may come
abbrev pub ReadyWantedMayCome : Setting → Type 0
ReadyWantedMayCome s = (m : Moment) (worker : ℕ) (event : Event) → IsReadyList s m → worker < s.workers → WantsReady s m worker event
    → (after : Moment) × MayReady s m worker event after

-- and while the root has not ended, it is somebody's turn
abbrev pub ReadySomebodysTurn : Setting → Type 0
ReadySomebodysTurn s = (words : ℕ → ℕ) (n : ℕ) (m : Moment) → IsReadyList s m → 0 < s.workers → ¬ HasEnded s m []
    → (pair : Pair) × ReadyTurn s words n m pair

-- a play is a run of the machine in which no give up is free
abbrev pub ReadyPlaysAreRuns : Setting → Type 0
ReadyPlaysAreRuns s = (limits : Limits) (words : ℕ → ℕ) (run : List Pair) (last : Moment) (ending : Ending)
    → ReadyPlays s limits words 0 opening run last ending
    → (reaches : ReadyReaches s opening run last) × NoneGivenFree s opening run last reaches

-- there is a play for all words
abbrev pub ReadyPlaysEnd : Setting → Type 0
ReadyPlaysEnd s = record_words ≤ s.quota → 0 < s.workers → (limits : Limits) (words : ℕ → ℕ)
    → (run : List Pair) × (last : Moment) × (ending : Ending) × ReadyPlays s limits words 0 opening run last ending

-- with room for all words and actions of the list a play finishes
abbrev pub ReadyPlaysFinish : Setting → Type 0
ReadyPlaysFinish s = (limits : Limits) (words : ℕ → ℕ) (run : List Pair) (last : Moment) (ending : Ending)
    → total words_taken s.list ≤ limits.capacity → length s.list ≤ limits.actions
    → ReadyPlays s limits words 0 opening run last ending → ending ≡ finished

-- no play ends for want of a place in the list
abbrev pub ListsNeverFill : Setting → Type 0
ListsNeverFill s = (limits : Limits) (words : ℕ → ℕ) (run : List Pair) (last : Moment) (deques : ℕ)
    → ¬ ReadyPlays s limits words 0 opening run last (stopped (deques_full deques))

-- with as many actions as the list has, the limit of actions stops no play
abbrev pub ReadyActionsSuffice : Setting → Type 0
ReadyActionsSuffice s = (limits : Limits) (words : ℕ → ℕ) (run : List Pair) (last : Moment) (limit : ℕ)
    → length s.list ≤ limits.actions → ¬ ReadyPlays s limits words 0 opening run last (stopped (steps_spent limit))

-- with room for all words that the list takes, its arena stops no play
abbrev pub ReadyArenasWithRoomLast : Setting → Type 0
ReadyArenasWithRoomLast s = (limits : Limits) (words : ℕ → ℕ) (run : List Pair) (last : Moment) (live : ℤ) (asked : ℕ)
    → total words_taken s.list ≤ limits.capacity → ¬ ReadyPlays s limits words 0 opening run last (stopped (arena_full live asked))

-- so many words are room for the peak and two quotas for each period ahead, whichever Alloc or Fork comes next, with this action counted
abbrev pub ReadyCoversNext : Setting → (capacity : ℕ) → Moment → Type 0
ReadyCoversNext s capacity m = (worker place n : ℕ) (after : Moment) → MayReady s m worker (does place) after
    → 0 < words_taken (action_at s.list place) → IsPrefix s.list (done_at after) n
    → bound s.quota s.list (periods_ahead n after.books) ≤ℤ pos capacity

-- nor does it stop one where its last moment has room for the bound after the next action
abbrev pub ReadyArenasWithTheBoundLast : Setting → Type 0
ReadyArenasWithTheBoundLast s = (limits : Limits) (words : ℕ → ℕ) (run : List Pair) (last : Moment) (live : ℤ) (asked : ℕ)
    → ReadyCoversNext s limits.capacity last → ¬ ReadyPlays s limits words 0 opening run last (stopped (arena_full live asked))

-- Why what is played from a moment on, after n words, ends as it does at its last moment: the root has ended, or the event of the turn meets the
-- stop. The turn is the one after the words that this front of the play drew.
abbrev pub ReadyHasCause : Setting → Limits → (words : ℕ → ℕ) → (n : ℕ) → (first : Moment) → List Pair → (last : Moment) → Ending → Type 0
ReadyHasCause s limits words n first run last finished = HasEnded s last []
ReadyHasCause s limits words n first run last (stopped stop) = (drawn : ℕ) × (pair : Pair) × ReadyTurn s words drawn last pair
    × Meets s limits last pair.event stop × ReadyPlaysOn s limits words n first run drawn last

abbrev pub ReadyEndingsHaveCauses : Setting → Type 0
ReadyEndingsHaveCauses s = (limits : Limits) (words : ℕ → ℕ) (run : List Pair) (last : Moment) (ending : Ending)
    → ReadyPlays s limits words 0 opening run last ending → ReadyHasCause s limits words 0 opening run last ending
