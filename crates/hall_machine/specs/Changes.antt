-- What keeps the law of the seats.
use Rattle.std.specs.Prelude.{◌≡◌, ◌≢◌, ℕ, suc, ◌<◌, ◌≤◌, Bool, true, false, Option, None, Some, List, [], ◌∷◌, ◌++◌, length, slice_get, slice_set, refl}
use Rattle.deque_list.specs.declared.deque_id.DequeId.{DequeId}
use Rattle.deque_machine.specs.Lists.{Among}
use Rattle.deque_machine.specs.Moments.{Moment, opening}
use Rattle.deque_machine.specs.Machine.{Setting, gives_up}
use Rattle.deque_machine.specs.Play as play
use Rattle.deque_machine.specs.Play.{Limits, IsForced}
use Rattle.deque_machine.specs.Runs.{place_of}
use Rattle.moment_laws.specs.Passed.Periods.{Period}
use Rattle.moment_laws.specs.Passed.Parts.{Thread}
use Rattle.hall_machine.specs.Values.{Hall, LaneShown, by_rule, lane_at}
use Rattle.hall_machine.specs.Steps.{Step, Told, Leads, IsOfItsPeriod, told_to, last_theft}
use Rattle.hall_machine.specs.Standing.{Went}
use Rattle.hall_machine.specs.Writing as writing
use Rattle.hall_machine.specs.Rows.{IsFirst}
use Rattle.hall_machine.specs.Views.{View, fresh, one_if_counting, event_told}
use Rattle.hall_machine.specs.Crew.{Crew}

-- a hall that begins, with one seat that has all places
abbrev pub FirstCrew : Setting → Type 0
FirstCrew s = (limits : Limits) (h : Hall) (x : Thread) (worker : ℕ) → IsFirst h x → h.list.crew ≡ worker ∷ [] → h.list.kept ≡ None
    → worker < s.workers → Crew s limits h [] opening refl 0 (fresh worker s.workers ∷ [])

-- a seat after an event: it was told of it, holds no count any more, and owns this deque or none; it has yielded or not
abbrev pub after_event : View → Option DequeId → Told → (yielded : Bool) → View
after_event v deque told yielded = record v { deque = deque; counting = false; yielded = yielded; mine = v.mine ++ told ∷ [] }

-- Whose deques are whose after an event of a worker: those of the others are as they were, with the periods that run in them, and its own is
-- this one or none.
pub record ChangesOwn (h after : Hall) (worker : ℕ) (deque : Option DequeId) : Type 0 where
  pub kept_theirs : (id : DequeId) (other : ℕ) → other ≢ worker → Among (writing.place_of id (Some other)) h.list.places
      → Among (writing.place_of id (Some other)) after.list.places × (LaneShown.period (lane_at after.lanes id) ≡ LaneShown.period (lane_at h.lanes id))
  pub no_more : (id : DequeId) (other : ℕ) → other ≢ worker → Among (writing.place_of id (Some other)) after.list.places
      → Among (writing.place_of id (Some other)) h.list.places
  pub its : (id : DequeId) → deque ≡ Some id → Among (writing.place_of id (Some worker)) after.list.places
  pub all_its : (id : DequeId) → Among (writing.place_of id (Some worker)) after.list.places → deque ≡ Some id

-- With an event of a seat that is in, the law of the seats goes on. The seat holds a count just where the event is an action; the event is in
-- the period of its last theft, as is the period that runs in its lane afterwards; and it yields where the event is a free give up.
abbrev pub EventsKeepCrew : Setting → Type 0
EventsKeepCrew s = (limits : Limits) (h after : Hall) (steps : List Step) (m : Moment) (leads : Leads s steps m) (count : ℕ) (views : List View)
    (v : View) (step : Step) (deque : Option DequeId) (yielded : Bool) → Crew s limits h steps m leads count views
    → slice_get views step.seat ≡ Some v → 0 < v.places → v.left ≡ false → step.worker ≡ v.worker → (went : Went s after steps m step)
    → one_if_counting v ≡ length (place_of step.event) → event_told step.told ≡ step.told ∷ []
    → ChangesOwn h after v.worker deque → h.list.places ≢ [] → after.list.crew ≡ h.list.crew → after.list.kept ≡ h.list.kept
    → IsOfItsPeriod step.event step.period (told_to step.seat steps)
    → ((id : DequeId) → deque ≡ Some id → (p : Period) → LaneShown.period (lane_at after.lanes id) ≡ Some p
    → last_theft (told_to step.seat steps ++ step.told ∷ []) ≡ Some p.number)
    → (yielded ≡ false → v.yielded ≡ false) → (yielded ≡ false → step.event ≡ gives_up → IsForced s m step.worker)
    → Crew s limits after (step ∷ steps) went.0 (m, leads, went.1, went.2) count
    (slice_set views step.seat (after_event v deque step.told yielded))

-- a count below the limit: the seat, which owns a deque and has found no stop, holds it until its action
abbrev pub CountsKeepCrew : Setting → Type 0
CountsKeepCrew s = (limits : Limits) (h : Hall) (steps : List Step) (m : Moment) (leads : Leads s steps m) (count : ℕ) (views : List View)
    (seat : ℕ) (v : View) (id : DequeId) → Crew s limits h steps m leads count views → slice_get views seat ≡ Some v → 0 < v.places
    → v.counting ≡ false → v.found ≡ None → v.deque ≡ Some id → count < limits.actions
    → Crew s limits h steps m leads (suc count) (slice_set views seat (record v { counting = true }))

-- a count at the limit or above it, where the list has more actions: the seat has found the limit spent
abbrev pub SpentCountsKeepCrew : Setting → Type 0
SpentCountsKeepCrew s = (limits : Limits) (h : Hall) (steps : List Step) (m : Moment) (leads : Leads s steps m) (count : ℕ) (views : List View)
    (seat : ℕ) (v : View) → Crew s limits h steps m leads count views → slice_get views seat ≡ Some v → 0 < v.places → v.left ≡ false
    → v.counting ≡ false → v.found ≡ None → limits.actions ≤ count → limits.actions < length s.list
    → Crew s limits h steps m leads (suc count)
    (slice_set views seat (record v { found = Some (by_rule (play.steps_spent limits.actions)) }))
