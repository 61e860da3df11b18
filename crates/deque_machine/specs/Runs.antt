-- Runs of the machine, and their moves.
use Rattle.std.specs.Prelude.{◌≡◌, ℕ, Bool, true, false, nat_lt, filter, map, List, [], ◌∷◌, ◌++◌, length, ℤ}
use Rattle.depth_first_run.specs.Passed.Actions.{Deed, joins, dummy, ends, Action, peak}
use Rattle.depth_first_run.specs.Passed.Facts.{action_at}
use Rattle.deque_machine.specs.Moments.{Moment}
use Rattle.deque_machine.specs.Machine.{Setting, Event, does, May}

-- an event and the worker that does it
pub record Pair : Type 0 where
  pub worker : ℕ
  pub event : Event

-- these events may come one after another from the first moment on, and reach the last
abbrev pub Reaches : Setting → Moment → List Pair → Moment → Type 0
Reaches s first [] last = first ≡ last
Reaches s first (pair ∷ later) last = (next : Moment) × May s first pair.worker pair.event next × Reaches s next later last

-- the place of the action that an event does, if it is one
abbrev pub place_of : Event → List ℕ
place_of (does place) = place ∷ []
place_of other = []

-- the places of the actions of a run, in its order
abbrev pub places_of : List Pair → List ℕ
places_of [] = []
places_of (pair ∷ later) = place_of pair.event ++ places_of later

-- whether an action is a move: a Fork, an Alloc, a Release or a Fault, the End of a forked thread, or a Join that
-- releases words
abbrev pub moves_words : Deed → List ℕ → ℕ → Bool
moves_words (joins child) label words = nat_lt 0 words
moves_words dummy label words = false
moves_words ends label words = nat_lt 0 (length label)
moves_words other label words = true

abbrev pub is_move : Action → Bool
is_move action = moves_words action.deed action.label action.words

-- the moves of a run, in its order
abbrev pub moves : List Action → List Pair → List Action
moves l run = filter is_move (map (action_at l) (places_of run))

-- the high-water mark of a run: the greatest sum of a prefix of its moves, at least 0
abbrev pub high_water_mark : List Action → List Pair → ℤ
high_water_mark l run = peak (moves l run)
