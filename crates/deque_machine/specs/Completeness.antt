-- What keeps a play from each of its three stops.
use Rattle.std.specs.Prelude.{ℕ, ◌<◌, ◌≤◌, List, length, ℤ, pos, ◌≤ℤ◌}
use Rattle.depth_first_run.specs.Passed.Facts.{action_at}
use Rattle.deque_machine.specs.Books.{IsPrefix, periods_ahead, bound}
use Rattle.deque_machine.specs.Lists.{total}
use Rattle.deque_machine.specs.Moments.{Moment, opening, done_at}
use Rattle.deque_machine.specs.Machine.{Setting, does, May}
use Rattle.deque_machine.specs.Play.{Limits, arena_full, steps_spent, deques_full, stopped, Plays, words_taken, one_if_fork}
use Rattle.deque_machine.specs.Runs.{Pair}

-- so many words are room for the peak and two quotas for each period ahead, whichever Alloc or Fork comes next, with this action counted
abbrev pub CoversNext : Setting → (capacity : ℕ) → Moment → Type 0
CoversNext s capacity m = (worker place n : ℕ) (after : Moment) → May s m worker (does place) after → 0 < words_taken (action_at s.list place)
    → IsPrefix s.list (done_at after) n → bound s.quota s.list (periods_ahead n after.books) ≤ℤ pos capacity

-- with room for all words that the list takes, its arena stops no play
abbrev pub ArenasWithRoomLast : Setting → Type 0
ArenasWithRoomLast s = (limits : Limits) (words : ℕ → ℕ) (run : List Pair) (last : Moment) (live : ℤ) (asked : ℕ)
    → total words_taken s.list ≤ limits.capacity → ¬ Plays s limits words 0 opening run last (stopped (arena_full live asked))

-- nor where its last moment has room for the bound behind the next action
abbrev pub ArenasWithTheBoundLast : Setting → Type 0
ArenasWithTheBoundLast s = (limits : Limits) (words : ℕ → ℕ) (run : List Pair) (last : Moment) (live : ℤ) (asked : ℕ)
    → CoversNext s limits.capacity last → ¬ Plays s limits words 0 opening run last (stopped (arena_full live asked))

-- with as many actions as the list has, the limit of actions stops no play
abbrev pub ActionsSuffice : Setting → Type 0
ActionsSuffice s = (limits : Limits) (words : ℕ → ℕ) (run : List Pair) (last : Moment) (limit : ℕ)
    → length s.list ≤ limits.actions → ¬ Plays s limits words 0 opening run last (stopped (steps_spent limit))

-- and with more deques than the list has Forks, the limit of deques stops none
abbrev pub DequesSuffice : Setting → Type 0
DequesSuffice s = (limits : Limits) (words : ℕ → ℕ) (run : List Pair) (last : Moment) (deques : ℕ)
    → total one_if_fork s.list < limits.deques → ¬ Plays s limits words 0 opening run last (stopped (deques_full deques))
