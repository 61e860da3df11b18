-- What a seat notes, and what it counts for.
use Rattle.std.specs.Prelude.{ℕ, zero, suc, ◌+◌, Bool, true, false, cond, nat_eq, Option, None, Some, List, [], ◌∷◌, ◌++◌}
use Rattle.deque_list.specs.declared.deque_id.DequeId.{DequeId}
use Rattle.deque_machine.specs.Moments.{one_if_worker}
use Rattle.deque_machine.specs.Play as play
use Rattle.hall_machine.specs.Values.{Stop, by_rule, no_memory, End}
use Rattle.hall_machine.specs.Steps.{Told, stole, did, waited, gave_up, halted}

-- A seat: its worker and its places; whether it has left; its deque, the stop that it found, and the end that it was answered, or none of
-- these; whether it holds a count below the limit and has not decided; whether it has yielded; the worker for whom it enters, whom the list
-- names and who has no seat yet, or none; and what it was told.
pub record View : Type 0 where
  pub worker : ℕ
  pub places : ℕ
  pub left : Bool
  pub deque : Option DequeId
  pub found : Option Stop
  pub answered : Option End
  pub counting : Bool
  pub yielded : Bool
  pub enters : Option ℕ
  pub mine : List Told

-- the seat of a worker that has this many places and has done nothing
abbrev pub fresh : ℕ → ℕ → View
fresh worker places = record {
  worker = worker;
  places = places;
  left = false;
  deque = None;
  found = None;
  answered = None;
  counting = false;
  yielded = false;
  enters = None;
  mine = [];
}

-- a seat that was joined notes nothing any more
abbrev pub joined : View
joined = record (fresh 0 0) { left = true }

-- 1 for a seat that has a place and has not left
abbrev pub in_hall : ℕ → Bool → ℕ
in_hall zero left = 0
in_hall (suc places) true = 0
in_hall (suc places) false = 1

abbrev pub one_if_in : View → ℕ
one_if_in v = in_hall v.places v.left

-- 1 where it is of this worker
abbrev pub one_if_its : ℕ → View → ℕ
one_if_its worker v = cond (nat_eq worker v.worker) (one_if_in v) 0

-- how often a seat stands for a worker: as its seat, and as the one that enters for it
abbrev pub stands_for : ℕ → View → ℕ
stands_for worker v = one_if_its worker v + one_if_worker worker v.enters

-- for how many workers it stands
abbrev pub one_if_some : Option ℕ → ℕ
one_if_some None = 0
one_if_some (Some worker) = 1

abbrev pub workers_of : View → ℕ
workers_of v = one_if_in v + one_if_some v.enters

abbrev pub places_held : View → ℕ
places_held v = v.places

abbrev pub one_if_counting : View → ℕ
one_if_counting v = cond v.counting 1 0

-- 1 for a seat that is in and found the limit of actions spent
abbrev pub by_the_limit : Option Stop → ℕ → ℕ
by_the_limit None here = 0
by_the_limit (Some no_memory) here = 0
by_the_limit (Some (by_rule (play.arena_full live asked))) here = 0
by_the_limit (Some (by_rule (play.deques_full deques))) here = 0
by_the_limit (Some (by_rule (play.steps_spent limit))) here = here

abbrev pub one_if_late : View → ℕ
one_if_late v = by_the_limit v.found (one_if_in v)

-- what was told of events: all but the ends
abbrev pub event_told : Told → List Told
event_told (stole deque period) = stole deque period ∷ []
event_told (did name) = did name ∷ []
event_told (waited thread) = waited thread ∷ []
event_told (gave_up deque) = gave_up deque ∷ []
event_told (halted end) = []

abbrev pub events_told : List Told → List Told
events_told [] = []
events_told (told ∷ later) = event_told told ++ events_told later
