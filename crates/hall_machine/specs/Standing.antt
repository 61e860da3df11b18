-- At which moment of which run the slots of the hall stand.
use Rattle.std.specs.Prelude.{◌≡◌, ℕ, ◌<◌, ◌≤◌, None, Some, List, ◌∷◌, length}
use Rattle.deque_list.specs.declared.place.Place.{Place}
use Rattle.deque_machine.specs.Lists.{Each}
use Rattle.deque_machine.specs.Moments.{Moment, opening}
use Rattle.deque_machine.specs.Machine.{Setting, May}
use Rattle.deque_machine.specs.Runs.{moves, Reaches}
use Rattle.deque_machine.specs.Play as play
use Rattle.moment_laws.specs.Passed.Periods.{Period}
use Rattle.moment_laws.specs.Passed.Telling.{Tell}
use Rattle.moment_laws.specs.Passed.Numbers.{NumbersDiffer}
use Rattle.moment_laws.specs.Passed.Parts.{Parts}
use Rattle.moment_laws.specs.Standing.{StandsAt}
use Rattle.moment_laws.specs.Moves.{AreMovesOf}
use Rattle.moment_laws.specs.Readiness.{AreDeques}
use Rattle.hall_machine.specs.Values.{LaneShown, Hall, lane_at, the_thread, deques_of, parts_of, showing_of}
use Rattle.hall_machine.specs.Steps.{Step, Tells, Leads, NoneFree, run_of, names_in}

-- a place has a lane, and a period runs in it while somebody owns the deque
pub record HasLane (lanes : List LaneShown) (place : Place) : Type 0 where
  pub inside : place.id.0 < length lanes
  pub runs : (worker : ℕ) → place.owner ≡ Some worker → (p : Period) × (LaneShown.period (lane_at lanes place.id) ≡ Some p)

-- The slots are in shape: each place has its lane, and no two periods have one number.
pub record IsInShape (h : Hall) : Type 0 where
  pub lanes : Each (HasLane h.lanes) h.list.places
  pub numbers : NumbersDiffer (Parts.periods (parts_of h))

-- a period ran what was done in it
abbrev pub RanBy : List Step → Period → Type 0
RanBy steps p = p.ran ≡ names_in p.number steps

-- The hall stands at the moment to which these steps lead: what it shows stands there, with the moves of the run. It is in shape, each
-- period ran what was done in it, and no step is of a period that was not begun.
pub record HallStands (s : Setting) (h : Hall) (steps : List Step) (m : Moment) : Type 0 where
  pub standing : StandsAt s (showing_of h) (moves s.list (run_of steps)) m
  pub shape : IsInShape h
  pub ran : Each (RanBy steps) (Parts.periods (parts_of h))
  pub tagged : Each (λ step. step.period ≤ h.list.begun) steps

-- with one step more the hall stands at the moment after it
abbrev pub Went : Setting → Hall → List Step → Moment → Step → Type 0
Went s after steps m step = (next : Moment) × May s m step.worker step.event next × Tells s.list m step.event step.period step.told
    × HallStands s after (step ∷ steps) next

-- steps that lead to a moment are a run of the machine that reaches it
abbrev pub StepsAreARun : Setting → Type 0
StepsAreARun s = (steps : List Step) (m : Moment) → Leads s steps m → Reaches s opening (run_of steps) m

-- and where no give up among them was free, none of the run is
abbrev pub NoneOfTheRunIsFree : Setting → Type 0
NoneOfTheRunIsFree s = (steps : List Step) (m : Moment) (leads : Leads s steps m) → NoneFree s steps m leads
    → (reaches : Reaches s opening (run_of steps) m) × play.NoneFree s opening (run_of steps) m reaches

-- The deques of a hall are those of the moment, so what a list of deques tells (where a thread can be stolen, which ids are free) is so of the
-- moment too.
abbrev pub DequesAreShown : Setting → Type 0
DequesAreShown s = (h : Hall) (steps : List Step) (m : Moment) → HallStands s h steps m → AreDeques the_thread (deques_of h) m

-- Where nobody owns a deque, the closed periods are all that were begun: they tell the books, and the moves of the pool are those of the run.
abbrev pub ClosedIsARun : Setting → Type 0
ClosedIsARun s = (h : Hall) (steps : List Step) (m : Moment) → Leads s steps m → HallStands s h steps m
    → Each (λ place. place.owner ≡ None) h.list.places
    → Reaches s opening (run_of steps) m × Tell s.quota s.list h.list.closed m.books
    × AreMovesOf h.list.closed h.pool.moves (moves s.list (run_of steps))
