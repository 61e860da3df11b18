-- What one turn comes to, and a play.
use Rattle.std.specs.Prelude.{◌≡◌, ℕ, suc, ◌+◌, Option, None, Some, List, [], ◌∷◌, ◌++◌, pos}
use Rattle.depth_first_run.specs.States.{Setting}
use Rattle.deque_machine.specs.Moments.{Moment}
use Rattle.deque_machine.specs.Play as play
use Rattle.deque_machine.specs.Play.{Meets}
use Rattle.deque_machine.specs.Runs.{Pair}
use Rattle.deque_machine.specs.Terms.{Terms, machine_of}
use Rattle.play_rules.specs.declared.stop.Stop.TheVariants.{ArenaFull, DequesFull, StepsSpent, OutOfMemory}
use Rattle.play_rules.specs.declared.ends.RunEnd.{RunEnd}
use Rattle.play_rules.specs.declared.ends.RunEnd.TheVariants.{Finished, Stopped}
use Rattle.ready_machine.specs.ReadyMachine.{MayReady}
use Rattle.ready_machine.specs.ReadyPlay.{CanGo, ReadyTurn, ReadyPlays}
use Rattle.ready_machine.specs.ReadyFronts.{ReadyPlaysOn}
use Rattle.async_core.specs.declared.run.AsyncCore.{AsyncCore}
use Rattle.async_core.specs.Cores.{IsAt, terms_at, end_of}

-- At the moment m of a run it is the turn of a worker, as the next word picks it, and nothing stops its event. Now the core is at the moment
-- of the run with this event more.
pub record TurnGoesOn (c : Setting) (terms : Terms) (words : ℕ → ℕ) (after : AsyncCore) (run : List Pair) (m : Moment) : Type 0 where
  pub pair : Pair
  pub next : Moment
  pub turn : ReadyTurn (machine_of c terms) words 0 m pair
  pub free : (stop : play.Stop) → ¬ Meets (machine_of c terms) terms.limits m pair.event stop
  pub may : MayReady (machine_of c terms) m pair.worker pair.event next
  pub is_at : IsAt c after (run ++ pair ∷ []) next

-- its event meets this stop, and the core is where it was
pub record TurnStops (c : Setting) (terms : Terms) (words : ℕ → ℕ) (after : AsyncCore) (run : List Pair) (m : Moment) (stop : play.Stop)
    : Type 0 where
  pub pair : Pair
  pub turn : ReadyTurn (machine_of c terms) words 0 m pair
  pub meets : Meets (machine_of c terms) terms.limits m pair.event stop
  pub is_at : IsAt c after run m

-- it is the turn of a worker for which there is not enough memory, and the core is where it was
pub record TurnLacks (c : Setting) (terms : Terms) (words : ℕ → ℕ) (after : AsyncCore) (run : List Pair) (m : Moment) : Type 0 where
  pub worker : ℕ
  pub first : play.IsFirst terms.workers (words 0) (CanGo m) worker
  pub is_at : IsAt c after run m

-- what a turn comes to, by the end that is kept after it
abbrev pub TurnsTo : Setting → Terms → (words : ℕ → ℕ) → (after : AsyncCore) → List Pair → Moment → Option RunEnd → Type 0
TurnsTo c terms words after run m None = ∥ TurnGoesOn c terms words after run m ∥₁
TurnsTo c terms words after run m (Some (Finished finish)) = ∥ TurnGoesOn c terms words after run m ∥₁
TurnsTo c terms words after run m (Some (Stopped (ArenaFull live asked))) = ∥ TurnStops c terms words after run m (play.arena_full (pos live) asked) ∥₁
TurnsTo c terms words after run m (Some (Stopped (DequesFull deques))) = ⊥
TurnsTo c terms words after run m (Some (Stopped (StepsSpent limit))) = ∥ TurnStops c terms words after run m (play.steps_spent limit) ∥₁
TurnsTo c terms words after run m (Some (Stopped OutOfMemory)) = ∥ TurnLacks c terms words after run m ∥₁

-- of these words so many were drawn, and those come that follow
abbrev pub IsDrawn : (words : ℕ → ℕ) → (drawn : ℕ) → (coming : ℕ → ℕ) → Type 0
IsDrawn words drawn coming = (i : ℕ) → coming i ≡ words (drawn + i)

-- One turn: one word was drawn of the coming ones, and at each moment of a run at which the core may be it comes to this.
pub record TakesTurn (words later : ℕ → ℕ) (before after : AsyncCore) : Type 0 where
  pub later_is : IsDrawn words 1 later
  pub turns : (c : Setting) (run : List Pair) (m : Moment) → IsAt c before run m → TurnsTo c (terms_at before) words after run m (end_of after)

-- The play from a moment of a run on, up to the end of the root: the core is at its last moment, and the words come that it did not draw.
pub record PlaysToEnd (c : Setting) (terms : Terms) (words coming : ℕ → ℕ) (after : AsyncCore) (run : List Pair) (m : Moment) : Type 0 where
  pub later : List Pair
  pub last : Moment
  pub drawn : ℕ
  pub front : ReadyPlaysOn (machine_of c terms) terms.limits words 0 m later drawn last
  pub plays : ReadyPlays (machine_of c terms) terms.limits words 0 m later last play.finished
  pub is_at : IsAt c after (run ++ later) last
  pub rest : IsDrawn words drawn coming

-- The play from a moment of a run on, up to the turn of a worker that meets this stop: the core is at the moment before this turn, and the
-- words come that neither the events before it nor this turn drew.
pub record PlaysToStop (c : Setting) (terms : Terms) (words coming : ℕ → ℕ) (after : AsyncCore) (run : List Pair) (m : Moment) (stop : play.Stop)
    : Type 0 where
  pub later : List Pair
  pub last : Moment
  pub drawn : ℕ
  pub front : ReadyPlaysOn (machine_of c terms) terms.limits words 0 m later drawn last
  pub plays : ReadyPlays (machine_of c terms) terms.limits words 0 m later last (play.stopped stop)
  pub is_at : IsAt c after (run ++ later) last
  pub rest : IsDrawn words (suc drawn) coming

-- The front of the play, up to the turn of a worker for which there was not enough memory: the core is at the moment before this turn, and the
-- words come that neither the front nor this turn drew.
pub record PlaysUntil (c : Setting) (terms : Terms) (words coming : ℕ → ℕ) (after : AsyncCore) (run : List Pair) (m : Moment) : Type 0 where
  pub later : List Pair
  pub last : Moment
  pub drawn : ℕ
  pub front : ReadyPlaysOn (machine_of c terms) terms.limits words 0 m later drawn last
  pub is_at : IsAt c after (run ++ later) last
  pub worker : ℕ
  pub first : play.IsFirst terms.workers (words drawn) (CanGo last) worker
  pub rest : IsDrawn words (suc drawn) coming

-- what a play comes to, by its end
abbrev pub PlaysTo : Setting → Terms → (words coming : ℕ → ℕ) → (after : AsyncCore) → List Pair → Moment → RunEnd → Type 0
PlaysTo c terms words coming after run m (Finished finish) = ∥ PlaysToEnd c terms words coming after run m ∥₁
PlaysTo c terms words coming after run m (Stopped (ArenaFull live asked)) =
    ∥ PlaysToStop c terms words coming after run m (play.arena_full (pos live) asked) ∥₁
PlaysTo c terms words coming after run m (Stopped (DequesFull deques)) = ⊥
PlaysTo c terms words coming after run m (Stopped (StepsSpent limit)) =
    ∥ PlaysToStop c terms words coming after run m (play.steps_spent limit) ∥₁
PlaysTo c terms words coming after run m (Stopped OutOfMemory) = ∥ PlaysUntil c terms words coming after run m ∥₁
