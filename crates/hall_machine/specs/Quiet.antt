-- Steps of a seat that are no event leave the hall at its moment; and the leave of an owner, which is a give up.
use Rattle.std.specs.Prelude.{◌≡◌, ◌≢◌, ℕ, suc, ◌<◌, ◌≤◌, true, false, Option, None, Some, List, [], ◌∷◌, ◌++◌, slice_get, slice_set}
use Rattle.deque_list.specs.declared.deque_id.DequeId.{DequeId}
use Rattle.deque_machine.specs.Lists.{Each, times}
use Rattle.deque_machine.specs.Moments.{Moment}
use Rattle.deque_machine.specs.Machine.{Setting, gives_up}
use Rattle.deque_machine.specs.Play.{Limits}
use Rattle.moment_laws.specs.Passed.Tables.{shut}
use Rattle.moment_laws.specs.Orders.{AreSame}
use Rattle.moment_laws.specs.Standing.{Keeps}
use Rattle.hall_machine.specs.Values.{Hall, Stop, End, parts_of, showing_of}
use Rattle.hall_machine.specs.Steps.{Step, Leads, gave_up}
use Rattle.hall_machine.specs.Standing.{HasLane}
use Rattle.hall_machine.specs.Writing.{lane_with, IsAtWork, written, list_unowned, step_of}
use Rattle.hall_machine.specs.Views.{View, fresh, joined}
use Rattle.hall_machine.specs.Crew.{HasCauseAmong}
use Rattle.hall_machine.specs.Changes.{after_event}
use Rattle.hall_machine.specs.Seats.{with_crew, LooksTheSame, entering, giving, finding, end_with, halted_with, leaving, with_places_of}
use Rattle.hall_machine.specs.State.{RunningState, IsIn, GoesOn}

-- what is put back shows the same as before, perhaps in another order
abbrev pub QuietPutsGoOn : Setting → Type 0
QuietPutsGoOn s = (limits : Limits) (h after : Hall) (steps : List Step) (m : Moment) (leads : Leads s steps m) (count : ℕ) (views : List View)
    → RunningState s limits h steps m leads count views → AreSame (parts_of h) (parts_of after) → Keeps (showing_of h) (showing_of after) 0
    → Each (HasLane after.lanes) after.list.places → LooksTheSame h after → RunningState s limits after steps m leads count views

-- a count below the limit
abbrev pub CountsGoOn : Setting → Type 0
CountsGoOn s = (limits : Limits) (h : Hall) (steps : List Step) (m : Moment) (leads : Leads s steps m) (count : ℕ) (views : List View)
    (seat : ℕ) (v : View) (id : DequeId) → RunningState s limits h steps m leads count views → IsIn views seat v → v.counting ≡ false
    → v.found ≡ None → v.deque ≡ Some id → count < limits.actions
    → RunningState s limits h steps m leads (suc count) (slice_set views seat (record v { counting = true }))

-- a worker enters by a seat that has two places, and then this splits its seat off
abbrev pub EnteringGoesOn : Setting → Type 0
EnteringGoesOn s = (limits : Limits) (h : Hall) (steps : List Step) (m : Moment) (leads : Leads s steps m) (count : ℕ) (views : List View)
    (seat : ℕ) (v : View) (worker : ℕ) (before later : List ℕ) → RunningState s limits h steps m leads count views
    → slice_get views seat ≡ Some v → 2 ≤ v.places → v.enters ≡ None → h.list.kept ≡ None → h.list.crew ≡ before ++ later
    → worker < s.workers → times worker h.list.crew ≡ 0
    → RunningState s limits (with_crew h (before ++ worker ∷ later) h.list.kept) steps m leads count (slice_set views seat (entering v worker))

abbrev pub SplittingGoesOn : Setting → Type 0
SplittingGoesOn s = (limits : Limits) (h : Hall) (steps : List Step) (m : Moment) (leads : Leads s steps m) (count : ℕ) (views : List View)
    (seat : ℕ) (v : View) (worker : ℕ) → RunningState s limits h steps m leads count views → slice_get views seat ≡ Some v
    → v.enters ≡ Some worker → RunningState s limits h steps m leads count (slice_set views seat (giving v) ++ fresh worker 1 ∷ [])

-- a stop with its cause is found by a theft or a give up, which keeps it unless an end is kept
abbrev pub KeptStopsGoOn : Setting → Type 0
KeptStopsGoOn s = (limits : Limits) (h : Hall) (steps : List Step) (m : Moment) (leads : Leads s steps m) (count : ℕ) (views : List View)
    (seat : ℕ) (v : View) (stop : Stop) → RunningState s limits h steps m leads count views → IsIn views seat v → v.counting ≡ false
    → v.found ≡ None → HasCauseAmong s limits steps m leads stop
    → RunningState s limits (with_crew h h.list.crew (Some (end_with h.list.kept stop))) steps m leads count (slice_set views seat (finding v stop))

-- a seat that found a stop halts: the stop is kept unless an end is, and the seat is answered the kept end
abbrev pub HaltingGoesOn : Setting → Type 0
HaltingGoesOn s = (limits : Limits) (h : Hall) (steps : List Step) (m : Moment) (leads : Leads s steps m) (count : ℕ) (views : List View)
    (seat : ℕ) (v : View) (stop : Stop) → RunningState s limits h steps m leads count views → IsIn views seat v → v.found ≡ Some stop
    → RunningState s limits (with_crew h h.list.crew (Some (end_with h.list.kept stop))) steps m leads count
    (slice_set views seat (halted_with v (end_with h.list.kept stop)))

-- the end that is kept where a seat leaves: a stop that it found is kept unless an end is
abbrev pub kept_with : Option Stop → Option End → Option End
kept_with None kept = kept
kept_with (Some stop) kept = Some (end_with kept stop)

-- an idle seat leaves
abbrev pub LeavingGoesOn : Setting → Type 0
LeavingGoesOn s = (limits : Limits) (h : Hall) (steps : List Step) (m : Moment) (leads : Leads s steps m) (count : ℕ) (views : List View)
    (seat : ℕ) (v : View) (before later : List ℕ) → RunningState s limits h steps m leads count views → IsIn views seat v → v.deque ≡ None
    → v.enters ≡ None → h.list.crew ≡ before ++ v.worker ∷ later
    → RunningState s limits (with_crew h (before ++ later) (kept_with v.found h.list.kept)) steps m leads count (slice_set views seat (leaving v))

-- An owner leaves: its deque is given up, and the seat has yielded.
abbrev pub LeavingOwnersGoOn : Setting → Type 0
LeavingOwnersGoOn s = (limits : Limits) (h : Hall) (steps : List Step) (m : Moment) (leads : Leads s steps m) (count : ℕ) (views : List View)
    (seat : ℕ) (v : View) (w : IsAtWork h v.worker) (before later : List ℕ) → RunningState s limits h steps m leads count views
    → IsIn views seat v → v.counting ≡ false → v.enters ≡ None → h.list.crew ≡ before ++ v.worker ∷ later
    → GoesOn s limits
    (with_crew (written w (list_unowned w (shut w.period)) h.pool (lane_with (w.top ∷ w.under) None)) (before ++ later) (kept_with v.found h.list.kept))
    steps m leads (step_of w seat gives_up (gave_up w.id.0)) count (slice_set views seat (leaving (after_event v None (gave_up w.id.0) true)))

-- a seat that has left is joined into another
abbrev pub JoiningGoesOn : Setting → Type 0
JoiningGoesOn s = (limits : Limits) (h : Hall) (steps : List Step) (m : Moment) (leads : Leads s steps m) (count : ℕ) (views : List View)
    (seat other : ℕ) (into gone : View) → RunningState s limits h steps m leads count views → seat ≢ other → slice_get views seat ≡ Some into
    → slice_get views other ≡ Some gone → 0 < into.places → 0 < gone.places → gone.left ≡ true → gone.enters ≡ None
    → RunningState s limits h steps m leads count (slice_set (slice_set views seat (with_places_of into gone)) other joined)
