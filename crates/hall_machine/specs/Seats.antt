-- What seats do besides events: they enter and split, find a stop, keep it and are answered, leave and join.
use Rattle.std.specs.Prelude.{◌≡◌, ◌≢◌, ℕ, ◌+◌, ◌-◌, ◌*◌, ◌<◌, ◌≤◌, Bool, true, false, Option, None, Some, List, [], ◌∷◌, ◌++◌, slice_get, slice_set}
use Rattle.deque_list.specs.declared.deque_id.DequeId.{DequeId}
use Rattle.deque_machine.specs.Lists.{Among, times}
use Rattle.deque_machine.specs.Moments.{Moment}
use Rattle.deque_machine.specs.Machine.{Setting}
use Rattle.deque_machine.specs.Play.{Limits}
use Rattle.hall_machine.specs.Values.{Hall, LaneShown, Stop, End, stopped, lane_at}
use Rattle.hall_machine.specs.Steps.{Step, Leads, halted}
use Rattle.hall_machine.specs.Standing.{HallStands}
use Rattle.hall_machine.specs.Writing.{place_of}
use Rattle.hall_machine.specs.Views.{View, fresh, joined}
use Rattle.hall_machine.specs.Crew.{Crew, HasCauseAmong, MayBeKept}

-- the hall with another crew, and with this end or none
abbrev pub with_crew : Hall → List ℕ → Option End → Hall
with_crew h crew kept = record h { list = record h.list { crew = crew; kept = kept } }

-- neither of them changes where it stands
abbrev pub CrewsStand : Setting → Type 0
CrewsStand s = (h : Hall) (steps : List Step) (m : Moment) (crew : List ℕ) (kept : Option End) → HallStands s h steps m
    → HallStands s (with_crew h crew kept) steps m

-- A hall in which the same deques have the same owners and the same periods run, with the same crew and the same end: what was written
-- into it is nothing to the seats.
pub record LooksTheSame (h after : Hall) : Type 0 where
  pub places : after.list.places ≡ h.list.places
  pub crew : after.list.crew ≡ h.list.crew
  pub kept : after.list.kept ≡ h.list.kept
  pub periods : (id : DequeId) (worker : ℕ) → Among (place_of id (Some worker)) h.list.places
      → LaneShown.period (lane_at after.lanes id) ≡ LaneShown.period (lane_at h.lanes id)

abbrev pub QuietPutsKeepCrew : Setting → Type 0
QuietPutsKeepCrew s = (limits : Limits) (h after : Hall) (steps : List Step) (m : Moment) (leads : Leads s steps m) (count : ℕ) (views : List View)
    → Crew s limits h steps m leads count views → LooksTheSame h after → Crew s limits after steps m leads count views

-- a seat that enters for a worker, whom the list names from then on
abbrev pub entering : View → ℕ → View
entering v worker = record v { enters = Some worker }

-- It has two places, enters for nobody else, and no end is kept; the worker is none that the list named.
abbrev pub EnteringKeepsCrew : Setting → Type 0
EnteringKeepsCrew s = (limits : Limits) (h : Hall) (steps : List Step) (m : Moment) (leads : Leads s steps m) (count : ℕ) (views : List View)
    (seat : ℕ) (v : View) (worker : ℕ) (before later : List ℕ) → Crew s limits h steps m leads count views → slice_get views seat ≡ Some v
    → 2 ≤ v.places → v.enters ≡ None → h.list.kept ≡ None → h.list.crew ≡ before ++ later → worker < s.workers → times worker h.list.crew ≡ 0
    → Crew s limits (with_crew h (before ++ worker ∷ later) h.list.kept) steps m leads count (slice_set views seat (entering v worker))

-- then it gives one place to a new seat of this worker
abbrev pub giving : View → View
giving v = record v { places = v.places - 1; enters = None }

abbrev pub SplittingKeepsCrew : Setting → Type 0
SplittingKeepsCrew s = (limits : Limits) (h : Hall) (steps : List Step) (m : Moment) (leads : Leads s steps m) (count : ℕ) (views : List View)
    (seat : ℕ) (v : View) (worker : ℕ) → Crew s limits h steps m leads count views → slice_get views seat ≡ Some v → v.enters ≡ Some worker
    → Crew s limits h steps m leads count (slice_set views seat (giving v) ++ fresh worker 1 ∷ [])

-- a seat that found a stop
abbrev pub finding : View → Stop → View
finding v stop = record v { found = Some stop }

-- It holds no count, had found none, and the stop has its cause.
abbrev pub FindingKeepsCrew : Setting → Type 0
FindingKeepsCrew s = (limits : Limits) (h : Hall) (steps : List Step) (m : Moment) (leads : Leads s steps m) (count : ℕ) (views : List View)
    (seat : ℕ) (v : View) (stop : Stop) → Crew s limits h steps m leads count views → slice_get views seat ≡ Some v → 0 < v.places
    → v.counting ≡ false → v.found ≡ None → HasCauseAmong s limits steps m leads stop
    → Crew s limits h steps m leads count (slice_set views seat (finding v stop))

-- the end that is kept where a stop is to be kept: the one that was kept before, and else the stop
abbrev pub end_with : Option End → Stop → End
end_with None stop = stopped stop
end_with (Some end) stop = end

-- a stop that a seat found may be kept
abbrev pub StopsAreKept : Setting → Type 0
StopsAreKept s = (limits : Limits) (h : Hall) (steps : List Step) (m : Moment) (leads : Leads s steps m) (count : ℕ) (views : List View)
    (seat : ℕ) (v : View) (stop : Stop) → Crew s limits h steps m leads count views → slice_get views seat ≡ Some v → 0 < v.places
    → v.found ≡ Some stop → Crew s limits (with_crew h h.list.crew (Some (end_with h.list.kept stop))) steps m leads count views

-- so may each end that may be kept, where none is
abbrev pub EndsAreKept : Setting → Type 0
EndsAreKept s = (limits : Limits) (h : Hall) (steps : List Step) (m : Moment) (leads : Leads s steps m) (count : ℕ) (views : List View)
    (end : End) → Crew s limits h steps m leads count views → h.list.kept ≡ None → MayBeKept s limits steps m leads h.list.places end
    → Crew s limits (with_crew h h.list.crew (Some end)) steps m leads count views

-- a seat that was answered the kept end, by a refusal or by its own halt
abbrev pub answered_with : View → End → View
answered_with v end = record v { answered = Some end }

abbrev pub halted_with : View → End → View
halted_with v end = record v { answered = Some end; mine = v.mine ++ halted end ∷ [] }

abbrev pub AnswersKeepCrew : Setting → Type 0
AnswersKeepCrew s = (limits : Limits) (h : Hall) (steps : List Step) (m : Moment) (leads : Leads s steps m) (count : ℕ) (views : List View)
    (seat : ℕ) (v : View) (end : End) → Crew s limits h steps m leads count views → slice_get views seat ≡ Some v → 0 < v.places
    → h.list.kept ≡ Some end
    → Crew s limits h steps m leads count (slice_set views seat (answered_with v end))
    × Crew s limits h steps m leads count (slice_set views seat (halted_with v end))

-- a seat that has left
abbrev pub leaving : View → View
leaving v = record v { left = true }

-- It owns no deque and enters for nobody, and where it found a stop an end is kept. The list names its worker no more.
abbrev pub LeavingKeepsCrew : Setting → Type 0
LeavingKeepsCrew s = (limits : Limits) (h : Hall) (steps : List Step) (m : Moment) (leads : Leads s steps m) (count : ℕ) (views : List View)
    (seat : ℕ) (v : View) (before later : List ℕ) → Crew s limits h steps m leads count views → slice_get views seat ≡ Some v
    → 0 < v.places → v.left ≡ false → v.deque ≡ None → v.enters ≡ None
    → ((stop : Stop) → v.found ≡ Some stop → (end : End) × (h.list.kept ≡ Some end)) → h.list.crew ≡ before ++ v.worker ∷ later
    → Crew s limits (with_crew h (before ++ later) h.list.kept) steps m leads count (slice_set views seat (leaving v))

-- a seat that another was joined into has its places, and has yielded where one of them had
abbrev pub or_else : Bool → Bool → Bool
or_else true other = true
or_else false other = other

abbrev pub with_places_of : View → View → View
with_places_of into gone = record into { places = into.places + gone.places; yielded = or_else into.yielded gone.yielded }

-- The other has left, and is joined into it.
abbrev pub JoiningKeepsCrew : Setting → Type 0
JoiningKeepsCrew s = (limits : Limits) (h : Hall) (steps : List Step) (m : Moment) (leads : Leads s steps m) (count : ℕ) (views : List View)
    (seat other : ℕ) (into gone : View) → Crew s limits h steps m leads count views → seat ≢ other → slice_get views seat ≡ Some into
    → slice_get views other ≡ Some gone → 0 < into.places → 0 < gone.places → gone.left ≡ true → gone.enters ≡ None
    → Crew s limits h steps m leads count (slice_set (slice_set views seat (with_places_of into gone)) other joined)

-- so the count word never is above the limit by more than two for each worker
abbrev pub CountsAreFew : Setting → Type 0
CountsAreFew s = (limits : Limits) (h : Hall) (steps : List Step) (m : Moment) (leads : Leads s steps m) (count : ℕ) (views : List View)
    → Crew s limits h steps m leads count views → count ≤ limits.actions + 2 * s.workers
