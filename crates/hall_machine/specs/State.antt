-- The running state of a hall: at which moment of which run it stands, with which seats.
use Rattle.std.specs.Prelude.{◌≡◌, ℕ, ◌<◌, false, Some, List, ◌∷◌, slice_get}
use Rattle.deque_machine.specs.Moments.{Moment}
use Rattle.deque_machine.specs.Machine.{Setting, May}
use Rattle.deque_machine.specs.Play.{Limits}
use Rattle.hall_machine.specs.Values.{Hall, Value, hall_of}
use Rattle.hall_machine.specs.Steps.{Step, Leads, Tells}
use Rattle.hall_machine.specs.Standing.{HallStands}
use Rattle.hall_machine.specs.Views.{View}
use Rattle.hall_machine.specs.Crew.{Crew}

-- The running state: the hall stands at the moment to which these steps lead, and the law of the seats holds there.
pub record RunningState (s : Setting) (limits : Limits) (h : Hall) (steps : List Step) (m : Moment) (leads : Leads s steps m) (count : ℕ)
    (views : List View) : Type 0 where
  pub stands : HallStands s h steps m
  pub crew : Crew s limits h steps m leads count views

-- A seat is in the hall, with this note.
pub record IsIn (views : List View) (seat : ℕ) (v : View) : Type 0 where
  pub noted : slice_get views seat ≡ Some v
  pub placed : 0 < v.places
  pub stays : v.left ≡ false

-- One step more is an event of the machine, and leads to a running state.
abbrev pub GoesOn : (s : Setting) → Limits → (after : Hall) (steps : List Step) (m : Moment) → Leads s steps m → Step → (count : ℕ) → List View
    → Type 0
GoesOn s limits after steps m leads step count views =
    (next : Moment) × (may : May s m step.worker step.event next) × (tells : Tells s.list m step.event step.period step.told)
    × RunningState s limits after (step ∷ steps) next (m, leads, may, tells) count views

-- The law of the hall, over what its slots show: some steps lead to a moment where they are in a running state.
pub record HallLaw (s : Setting) (limits : Limits) (shown : List Value) (count : ℕ) (views : List View) : Type 0 where
  pub steps : List Step
  pub moment : Moment
  pub leads : Leads s steps moment
  pub state : RunningState s limits (hall_of shown) steps moment leads count views
