-- What is said of the computed machine: it is the machine.
use Rattle.std.specs.Prelude.{◌≡◌, ◌↔◌, ℕ, suc, Some, List, [], ◌∷◌, ◌++◌, length}
use Rattle.std.specs.declared.result.Result.TheVariants.{Ok, Err}
use Rattle.deque_machine.specs.Moments.{Moment, opening}
use Rattle.deque_machine.specs.Machine.{Setting, Event, HasEnded, May}
use Rattle.deque_machine.specs.LawfulOrder.{IsLawful}
use Rattle.deque_machine.specs.Runs.{Pair, Reaches}
use Rattle.deque_machine.specs.Play.{Limits, Ending, finished, stopped, Turn, Meets, Plays}
use Rattle.deque_machine.specs.Step.{step, replay}
use Rattle.deque_machine.specs.Played.{Played, play}
use Rattle.deque_machine.specs.Fronts.{PlaysOn}

-- at a lawful moment an event leads to a moment just where the machine has this case
abbrev pub StepIsTheMachine : Setting → Type 0
StepIsTheMachine s = (m after : Moment) (worker : ℕ) (event : Event) → IsLawful s m
    → May s m worker event after ↔ (step s m worker event ≡ Some after)

-- a list of pairs is answered with a moment just where it is a run that reaches the moment
abbrev pub ReplayReaches : Setting → Type 0
ReplayReaches s = (pairs : List Pair) (m : Moment) → (replay s pairs ≡ Ok m) ↔ Reaches s opening pairs m

-- the pairs before the n-th are a run, and the n-th is no case of the machine at the moment that they reach
pub record FailsAt (s : Setting) (pairs : List Pair) (n : ℕ) : Type 0 where
  pub front : List Pair
  pub pair : Pair
  pub back : List Pair
  pub is : pairs ≡ front ++ pair ∷ back
  pub number : n ≡ suc (length front)
  pub moment : Moment
  pub reached : Reaches s opening front moment
  pub no_case : (after : Moment) → ¬ May s moment pair.worker pair.event after

-- and with a number just where the pair of this number is the first that is no case
abbrev pub ReplayFails : Setting → Type 0
ReplayFails s = (pairs : List Pair) (n : ℕ) → (replay s pairs ≡ Err n) ↔ FailsAt s pairs n

-- at a lawful moment an event of a worker leads to one moment
abbrev pub OneWay : Setting → Type 0
OneWay s = (m one other : Moment) (worker : ℕ) (event : Event) → IsLawful s m → May s m worker event one → May s m worker event other →
    one ≡ other

-- there is only one play for a list of words
abbrev pub OnePlay : Setting → Type 0
OnePlay s = (limits : Limits) (words : ℕ → ℕ) (run run' : List Pair) (last last' : Moment) (ending ending' : Ending)
    → Plays s limits words 0 opening run last ending → Plays s limits words 0 opening run' last' ending'
    → (run ≡ run') × (last ≡ last') × (ending ≡ ending')

-- Why what is played from a moment on, after n words, ends as it does at its last moment: the root has ended, or the event of the turn meets the
-- stop. The turn is the one after the words that this front of the play drew.
abbrev pub PlayHasCause : Setting → Limits → (words : ℕ → ℕ) → (n : ℕ) → (first : Moment) → List Pair → (last : Moment) → Ending → Type 0
PlayHasCause s limits words n first run last finished = HasEnded s last []
PlayHasCause s limits words n first run last (stopped stop) = (drawn : ℕ) × (pair : Pair) × Turn s words drawn last pair
    × Meets s limits last pair.event stop × PlaysOn s limits words n first run drawn last

abbrev pub EndingsHaveCauses : Setting → Type 0
EndingsHaveCauses s = (limits : Limits) (words : ℕ → ℕ) (run : List Pair) (last : Moment) (ending : Ending)
    → Plays s limits words 0 opening run last ending → PlayHasCause s limits words 0 opening run last ending

-- what the computed play answers is the play
abbrev pub PlayedIsPlay : Setting → Type 0
PlayedIsPlay s = (limits : Limits) (words : ℕ → ℕ) (turns : ℕ) (played : Played) → play s limits words turns 0 opening ≡ Some played
    → Plays s limits words 0 opening played.run played.last played.ending
