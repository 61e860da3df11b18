-- A run as the hall tells it: its steps, the newest first, each with the seat that did it and with what the seat was told.
use Rattle.std.specs.Prelude.{◌≡◌, ◌<◌, ℕ, suc, ◌⊎◌, cond, nat_eq, Option, None, Some, List, [], ◌∷◌, ◌++◌, length}
use Rattle.depth_first_list.specs.Passed.ThreadId.{ThreadId}
use Rattle.depth_first_list.specs.Passed.ActionId.{ActionId}
use Rattle.depth_first_list.specs.Actions.{Action}
use Rattle.depth_first_list.specs.Facts.{index_at}
use Rattle.deque_machine.specs.Moments.{Moment, opening}
use Rattle.deque_machine.specs.Machine.{Setting, Event, steals, does, suspends, gives_up, May}
use Rattle.deque_machine.specs.Play as play
use Rattle.deque_machine.specs.Play.{Limits, IsForced, Wants, Meets}
use Rattle.deque_machine.specs.Runs.{Pair}
use Rattle.hall_machine.specs.Values.{End}

-- What a seat is told of a step: the deque that it stole into and the number of its period, the action that it did, the thread that began to
-- wait, the deque that it gave up, or the end that it kept.
pub data Told : Type 0 where
  stole : (deque period : ℕ) → Told
  did : ActionId → Told
  waited : ThreadId → Told
  gave_up : (deque : ℕ) → Told
  halted : End → Told

-- A step: the seat and its worker, the number of its period, the event, and what the seat was told.
pub record Step : Type 0 where
  pub seat : ℕ
  pub worker : ℕ
  pub period : ℕ
  pub event : Event
  pub told : Told

-- what is told is the event, at a moment: a theft by its deque and the number of the period that it begins, an action by its index
abbrev pub Tells : List Action → Moment → Event → (period : ℕ) → Told → Type 0
Tells l m (steals place id) period told = (told ≡ stole id period) × (period ≡ suc (length m.books))
Tells l m (does place) period told = (name : ActionId) × (told ≡ did name) × (index_at l place ≡ name.index)
Tells l m suspends period told = (name : ThreadId) × (told ≡ waited name)
Tells l m gives_up period told = (id : ℕ) × (told ≡ gave_up id)

-- these steps lead from the opening moment to this one
abbrev pub Leads : Setting → List Step → Moment → Type 0
Leads s [] m = m ≡ opening
Leads s (step ∷ earlier) m = (before : Moment) × Leads s earlier before × May s before step.worker step.event m
    × Tells s.list before step.event step.period step.told

-- they are this run of the machine
abbrev pub run_of : List Step → List Pair
run_of [] = []
run_of (step ∷ earlier) = run_of earlier ++ record { worker = step.worker; event = step.event } ∷ []

-- a list where two numbers are the same, and else nothing
abbrev pub if_same : {X : Type 0} → ℕ → ℕ → List X → List X
if_same n k xs = cond (nat_eq n k) xs []

-- what a seat was told, in the order of its steps
abbrev pub told_to : ℕ → List Step → List Told
told_to seat [] = []
told_to seat (step ∷ earlier) = told_to seat earlier ++ if_same seat step.seat (step.told ∷ [])

-- the action that is told, if it is one
abbrev pub name_told : Told → List ActionId
name_told (stole deque period) = []
name_told (did name) = name ∷ []
name_told (waited thread) = []
name_told (gave_up deque) = []
name_told (halted end) = []

-- the actions that were done in a period, in their order
abbrev pub names_in : ℕ → List Step → List ActionId
names_in period [] = []
names_in period (step ∷ earlier) = names_in period earlier ++ if_same period step.period (name_told step.told)

-- the number of the period that the last theft began, of those that are told and one before them
abbrev pub last_from : Option ℕ → List Told → Option ℕ
last_from last [] = last
last_from last (stole deque period ∷ later) = last_from (Some period) later
last_from last (did name ∷ later) = last_from last later
last_from last (waited thread ∷ later) = last_from last later
last_from last (gave_up deque ∷ later) = last_from last later
last_from last (halted end ∷ later) = last_from last later

abbrev pub last_theft : List Told → Option ℕ
last_theft told = last_from None told

-- each step but a theft is in the period of its seat's last theft
abbrev pub IsOfItsPeriod : Event → (period : ℕ) → List Told → Type 0
IsOfItsPeriod (steals place id) period told = Unit {0}
IsOfItsPeriod (does place) period told = last_theft told ≡ Some period
IsOfItsPeriod suspends period told = last_theft told ≡ Some period
IsOfItsPeriod gives_up period told = last_theft told ≡ Some period

abbrev pub InTheirPeriods : List Step → Type 0
InTheirPeriods [] = Unit {0}
InTheirPeriods (step ∷ earlier) = IsOfItsPeriod step.event step.period (told_to step.seat earlier) × InTheirPeriods earlier

-- no give up among these steps was free
abbrev pub NoneFree : (s : Setting) (steps : List Step) (m : Moment) → Leads s steps m → Type 0
NoneFree s [] m leads = Unit {0}
NoneFree s (step ∷ earlier) m leads = (step.event ≡ gives_up → IsForced s leads.0 step.worker) × NoneFree s earlier leads.0 leads.1

-- at a moment the rules want an event of a worker of the run that meets this stop
abbrev pub MeetsAt : Setting → Limits → Moment → play.Stop → Type 0
MeetsAt s limits m stop =
    (worker : ℕ) × (worker < s.workers) × (word : ℕ) × (event : Event) × Wants s m worker word event × Meets s limits m event stop

-- so it was at some moment of these steps
abbrev pub HasMet : (s : Setting) → Limits → (steps : List Step) (m : Moment) → Leads s steps m → play.Stop → Type 0
HasMet s limits [] m leads stop = MeetsAt s limits m stop
HasMet s limits (step ∷ earlier) m leads stop = MeetsAt s limits m stop ⊎ HasMet s limits earlier leads.0 leads.1 stop
