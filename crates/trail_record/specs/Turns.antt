-- What is recorded of one turn.
use Rattle.std.specs.Prelude.{◌≡◌, ℕ, ◌<◌, Option, None, Some, option_map, MatchOption, List, [], ◌∷◌, ◌++◌}
use Rattle.depth_first_run.specs.States.{Setting}
use Rattle.deque_machine.specs.Moments.{Moment}
use Rattle.deque_machine.specs.Play.{IsReady, reach}
use Rattle.deque_machine.specs.Runs.{Pair}
use Rattle.deque_machine.specs.Terms.{Terms, machine_of}
use Rattle.dfd_core.specs.declared.run.Core.{Core}
use Rattle.play_rules.specs.declared.ends.RunEnd.{RunEnd}
use Rattle.play_rules.specs.declared.ends.RunEnd.TheVariants.{Finished, Stopped}
use Rattle.scheduler_state.specs.declared.stepped.Stepped.{Stepped}
use Rattle.scheduler_state.specs.declared.stepped.Stepped.TheVariants.{Stole, Acted, Suspended, GaveUp, Nothing, Over}
use Rattle.dfd_core.specs.Cores.{IsAt, terms_at, end_of}
use Rattle.dfd_core.specs.Plays.{TurnGoesOn, TurnsTo, IsDrawn}
use Rattle.dfd_core.specs.Turns.{IsVictim}
use Rattle.trail_check.specs.Told.{event_in_trail}
use Rattle.trail_meaning.specs.declared.trail_event.TrailEvent.{TrailEvent}
use Rattle.trail_meaning.specs.declared.trail_kind.TrailKind.{TrailKind}
use Rattle.trail_meaning.specs.declared.trail_kind.TrailKind.TheVariants.{Steal, Act, Suspend, GiveUp}

-- whom the turn of a worker robs: nobody, where it drew no word for a theft, and else the deque at this place
abbrev pub IsVictimOf : Setting → Core → Moment → (word place : Option ℕ) → Type 0
IsVictimOf c core m None place = Unit {0}
IsVictimOf c core m (Some word) place =
    MatchOption place ((p : ℕ) → p < reach (machine_of c (terms_at core)) m → ¬ IsReady m p) (IsVictim c core m word)

-- what a worker did in a step, as a trail tells it, with the place of the deque that it robbed
abbrev pub kind_recorded : Option ℕ → Stepped → Option TrailKind
kind_recorded place (Stole deque period) = option_map Steal place
kind_recorded place (Acted id) = Some Act
kind_recorded place (Suspended id) = Some Suspend
kind_recorded place (GaveUp deque) = Some GiveUp
kind_recorded place Nothing = None
kind_recorded place (Over end) = None

abbrev pub event_recorded : (worker : ℕ) → Stepped → (place : Option ℕ) → Option TrailEvent
event_recorded worker stepped place = option_map (λ kind. record { worker = worker; kind = kind }) (kind_recorded place stepped)

-- a record with one event more, if there is one
abbrev pub with_event : List TrailEvent → Option TrailEvent → List TrailEvent
with_event told None = told
with_event told (Some event) = told ++ event ∷ []

-- a turn that goes on, and its event
pub record TurnRecorded (c : Setting) (terms : Terms) (words : ℕ → ℕ) (drawn : ℕ) (after : Core) (run : List Pair) (m : Moment)
    (event : Option TrailEvent) : Type 0 where
  pub goes : TurnGoesOn c terms words drawn after run m
  pub event_is : event ≡ Some (event_in_trail goes.pair)

-- what a turn comes to, by the end that is kept behind it, and what is recorded of it: its event, or nothing where it met a stop
abbrev pub RecordsTo : Setting → Terms → (words : ℕ → ℕ) → (drawn : ℕ) → (after : Core) → List Pair → Moment → Option TrailEvent
    → Option RunEnd → Type 0
RecordsTo c terms words drawn after run m event None = ∥ TurnRecorded c terms words drawn after run m event ∥₁
RecordsTo c terms words drawn after run m event (Some (Finished finish)) = ∥ TurnRecorded c terms words drawn after run m event ∥₁
RecordsTo c terms words drawn after run m event (Some (Stopped stop)) =
    (event ≡ None) × TurnsTo c terms words drawn after run m (Some (Stopped stop))

-- One turn, and what is recorded of it: so many words were drawn of the coming ones, and at each moment of a run at which the core may be
-- it comes to this.
pub record RecordsTurn (words later : ℕ → ℕ) (before after : Core) (event : Option TrailEvent) : Type 0 where
  pub drawn : ℕ
  pub later_is : IsDrawn words drawn later
  pub turns : (c : Setting) (run : List Pair) (m : Moment) → IsAt c before run m
      → RecordsTo c (terms_at before) words drawn after run m event (end_of after)
