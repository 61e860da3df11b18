-- What is recorded of a play.
use Rattle.std.specs.Prelude.{◌≡◌, ℕ, Some, List, [], ◌++◌, pos, Result, Ok}
use Rattle.containers.specs.BoundedList.{entries}
use Rattle.depth_first_run.specs.States.{Setting}
use Rattle.deque_machine.specs.Moments.{Moment}
use Rattle.deque_machine.specs.Play as play
use Rattle.deque_machine.specs.Fronts.{PlaysOn}
use Rattle.deque_machine.specs.Runs.{Pair}
use Rattle.deque_machine.specs.Terms.{Terms, machine_of}
use Rattle.play_rules.specs.declared.stop.Stop.TheVariants.{ArenaFull, DequesFull, StepsSpent, OutOfMemory}
use Rattle.dfd_core.specs.declared.run.Core.{Core}
use Rattle.play_rules.specs.declared.ends.RunEnd.{RunEnd}
use Rattle.play_rules.specs.declared.ends.RunEnd.TheVariants.{Finished, Stopped}
use Rattle.dfd_core.specs.Cores.{IsAt, end_of}
use Rattle.dfd_core.specs.Plays.{IsDrawn, PlaysToEnd, PlaysToStop, PlaysUntil}
use Rattle.trail_check.specs.Told.{events_in_trail}
use Rattle.trail_meaning.specs.declared.trail_event.TrailEvent.{TrailEvent}
use Rattle.trail_record.specs.declared.recorded.Recorded.{Recorded}

-- a run that had ended stays as it is, draws no word and has no event
abbrev pub KeepsEnd : {C E : Type 0} → (before after : Core) → (choices later : C) → Result Recorded E → Type 0
KeepsEnd before after choices later result = (end : RunEnd) → end_of before ≡ Some end → (recorded : Recorded) × (result ≡ Ok recorded)
    × (recorded.end ≡ end) × (entries recorded.events ≡ []) × (after ≡ before) × (later ≡ choices)

-- what a play comes to, by its end, and its events, as a trail has them
abbrev pub PlaysRecorded : Setting → Terms → (words coming : ℕ → ℕ) → (after : Core) → List Pair → Moment → RunEnd → List TrailEvent → Type 0
PlaysRecorded c terms words coming after run m (Finished finish) events =
    ∥ ((p : PlaysToEnd c terms words coming after run m) × (events ≡ events_in_trail p.later)) ∥₁
PlaysRecorded c terms words coming after run m (Stopped (ArenaFull live asked)) events =
    ∥ ((p : PlaysToStop c terms words coming after run m (play.arena_full (pos live) asked)) × (events ≡ events_in_trail p.later)) ∥₁
PlaysRecorded c terms words coming after run m (Stopped (DequesFull deques)) events =
    ∥ ((p : PlaysToStop c terms words coming after run m (play.deques_full deques)) × (events ≡ events_in_trail p.later)) ∥₁
PlaysRecorded c terms words coming after run m (Stopped (StepsSpent limit)) events =
    ∥ ((p : PlaysToStop c terms words coming after run m (play.steps_spent limit)) × (events ≡ events_in_trail p.later)) ∥₁
PlaysRecorded c terms words coming after run m (Stopped OutOfMemory) events =
    ∥ ((p : PlaysUntil c terms words coming after run m) × (events ≡ events_in_trail p.later)) ∥₁

-- the front of the play, up to some moment: the core is at this moment, and the words come that the front did not draw
pub record IsInPart (c : Setting) (terms : Terms) (words coming : ℕ → ℕ) (after : Core) (run : List Pair) (m : Moment) : Type 0 where
  pub later : List Pair
  pub last : Moment
  pub drawn : ℕ
  pub front : PlaysOn (machine_of c terms) terms.limits words 0 m later drawn last
  pub is_at : IsAt c after (run ++ later) last
  pub rest : IsDrawn words drawn coming

abbrev pub PlaysInPart : Setting → Terms → (words coming : ℕ → ℕ) → (after : Core) → List Pair → Moment → Type 0
PlaysInPart c terms words coming after run m = ∥ IsInPart c terms words coming after run m ∥₁
