-- A play that is under way, and how it goes on.
use Rattle.std.specs.Prelude.{ℕ, ◌+◌, List, [], ◌∷◌, ◌++◌}
use Rattle.deque_machine.specs.Moments.{Moment}
use Rattle.deque_machine.specs.Machine.{Setting, May}
use Rattle.deque_machine.specs.Play.{Limits, Stop, Ending, Meets, Turn, Plays, words_drawn}
use Rattle.deque_machine.specs.Runs.{Pair}

-- The front of a play: from a moment on, after n words, these events come, up to a moment after so many words.
pub data PlaysOn (s : Setting) (limits : Limits) (words : ℕ → ℕ) : ℕ → Moment → List Pair → ℕ → Moment → Type 0 where
  stays_here : (n : ℕ) (m : Moment) → PlaysOn s limits words n m [] n m
  takes_turn : (n : ℕ) (m next last : Moment) (pair : Pair) (later : List Pair) (drawn : ℕ) → Turn s words n m pair
      → ((stop : Stop) → ¬ Meets s limits m pair.event stop) → May s m pair.worker pair.event next
      → PlaysOn s limits words (n + words_drawn m pair.worker) next later drawn last → PlaysOn s limits words n m (pair ∷ later) drawn last

-- a play that goes on from the front of a play is that play
abbrev pub FrontsGoOn : Setting → Type 0
FrontsGoOn s = (limits : Limits) (words : ℕ → ℕ) (n drawn : ℕ) (m here last : Moment) (front rest : List Pair) (ending : Ending)
    → PlaysOn s limits words n m front drawn here → Plays s limits words drawn here rest last ending
    → Plays s limits words n m (front ++ rest) last ending
