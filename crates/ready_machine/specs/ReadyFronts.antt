-- A play of a ready list that is under way, and how it goes on.
use Rattle.std.specs.Prelude.{ℕ, suc, List, [], ◌∷◌, ◌++◌}
use Rattle.deque_machine.specs.Moments.{Moment}
use Rattle.deque_machine.specs.Machine.{Setting}
use Rattle.deque_machine.specs.Play.{Limits, Stop, Ending, Meets}
use Rattle.deque_machine.specs.Runs.{Pair}
use Rattle.ready_machine.specs.ReadyMachine.{MayReady, ReadyReaches, NoneGivenFree}
use Rattle.ready_machine.specs.ReadyPlay.{ReadyTurn, ReadyPlays}

-- The front of a play: from a moment on, after n words, these events come, up to a moment after so many words.
pub data ReadyPlaysOn (s : Setting) (limits : Limits) (words : ℕ → ℕ) : ℕ → Moment → List Pair → ℕ → Moment → Type 0 where
  stays_here : (n : ℕ) (m : Moment) → ReadyPlaysOn s limits words n m [] n m
  takes_turn : (n : ℕ) (m next last : Moment) (pair : Pair) (later : List Pair) (drawn : ℕ) → ReadyTurn s words n m pair
      → ((stop : Stop) → ¬ Meets s limits m pair.event stop) → MayReady s m pair.worker pair.event next
      → ReadyPlaysOn s limits words (suc n) next later drawn last → ReadyPlaysOn s limits words n m (pair ∷ later) drawn last

-- a play that goes on from the front of a play is that play
abbrev pub ReadyFrontsGoOn : Setting → Type 0
ReadyFrontsGoOn s = (limits : Limits) (words : ℕ → ℕ) (n drawn : ℕ) (m here last : Moment) (front rest : List Pair) (ending : Ending)
    → ReadyPlaysOn s limits words n m front drawn here → ReadyPlays s limits words drawn here rest last ending
    → ReadyPlays s limits words n m (front ++ rest) last ending

-- a front with one turn more, which meets no stop, is a front
abbrev pub FrontsTakeTurns : Setting → Type 0
FrontsTakeTurns s = (limits : Limits) (words : ℕ → ℕ) (n drawn : ℕ) (m here next : Moment) (front : List Pair) (pair : Pair)
    → ReadyPlaysOn s limits words n m front drawn here → ReadyTurn s words drawn here pair
    → ((stop : Stop) → ¬ Meets s limits here pair.event stop) → MayReady s here pair.worker pair.event next
    → ReadyPlaysOn s limits words n m (front ++ pair ∷ []) (suc drawn) next

-- a front is a run of the machine in which no give up is free
abbrev pub FrontsAreRuns : Setting → Type 0
FrontsAreRuns s = (limits : Limits) (words : ℕ → ℕ) (n drawn : ℕ) (m here : Moment) (front : List Pair)
    → ReadyPlaysOn s limits words n m front drawn here → (reaches : ReadyReaches s m front here) × NoneGivenFree s m front here reaches
