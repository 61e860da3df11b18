-- What holds of the seats, the count word and the end, where a hall stands at a moment.
use Rattle.std.specs.Prelude.{◌≡◌, ℕ, ◌+◌, ◌-◌, ◌<◌, ◌≤◌, true, false, min, Option, None, Some, List, [], length, slice_get}
use Rattle.deque_list.specs.declared.deque_id.DequeId.{DequeId}
use Rattle.deque_list.specs.declared.place.Place.{Place}
use Rattle.deque_machine.specs.Lists.{Among, Each, total, times}
use Rattle.deque_machine.specs.Books.{booked}
use Rattle.deque_machine.specs.Moments.{Moment}
use Rattle.deque_machine.specs.Machine.{Setting, HasEnded}
use Rattle.deque_machine.specs.Play as play
use Rattle.deque_machine.specs.Play.{Limits}
use Rattle.moment_laws.specs.Passed.Periods.{Period}
use Rattle.hall_machine.specs.Values.{Hall, LaneShown, Stop, by_rule, no_memory, End, finished, stopped, lane_at}
use Rattle.hall_machine.specs.Steps.{Step, Leads, told_to, last_theft, InTheirPeriods, NoneFree, HasMet}
use Rattle.hall_machine.specs.Writing.{place_of}
use Rattle.hall_machine.specs.Views.{View, joined, stands_for, workers_of, places_held, one_if_counting, one_if_late, events_told}

-- A stop has its cause among these steps: that of the arena or of the deques an event that the rules wanted at some moment of them, that of the
-- limit a list with more actions. Want of memory needs none.
abbrev pub HasCauseAmong : (s : Setting) → Limits → (steps : List Step) (m : Moment) → Leads s steps m → Stop → Type 0
HasCauseAmong s limits steps m leads no_memory = Unit {0}
HasCauseAmong s limits steps m leads (by_rule (play.arena_full live asked)) = HasMet s limits steps m leads (play.arena_full live asked)
HasCauseAmong s limits steps m leads (by_rule (play.deques_full deques)) = HasMet s limits steps m leads (play.deques_full deques)
HasCauseAmong s limits steps m leads (by_rule (play.steps_spent limit)) = (limit ≡ limits.actions) × (limits.actions < length s.list)

-- an end that may be kept: the root has ended and no deque is left, or a stop with its cause
abbrev pub MayBeKept : (s : Setting) → Limits → (steps : List Step) (m : Moment) → Leads s steps m → List Place → End → Type 0
MayBeKept s limits steps m leads places finished = HasEnded s m [] × (places ≡ [])
MayBeKept s limits steps m leads places (stopped stop) = HasCauseAmong s limits steps m leads stop

-- how many workers are missing once an end is kept
abbrev pub missing : Option End → (workers crew : ℕ) → ℕ
missing None workers crew = 0
missing (Some end) workers crew = workers - crew

-- What holds of a seat that was not joined.
pub record SeatStands (s : Setting) (limits : Limits) (h : Hall) (steps : List Step) (m : Moment) (leads : Leads s steps m) (seat : ℕ) (v : View)
    : Type 0 where
  -- its deque is the one that the list gives to its worker, and it has none once it has left
  pub owns : (id : DequeId) → v.deque ≡ Some id → Among (place_of id (Some v.worker)) h.list.places
  pub owned : v.left ≡ false → (id : DequeId) → Among (place_of id (Some v.worker)) h.list.places → v.deque ≡ Some id
  pub gone : v.left ≡ true → v.deque ≡ None
  -- it was told just what it did in the run
  pub told : events_told v.mine ≡ told_to seat steps
  -- the period that runs in its lane is that of its last theft
  pub runs : (id : DequeId) → v.deque ≡ Some id → (p : Period) → LaneShown.period (lane_at h.lanes id) ≡ Some p
      → last_theft (told_to seat steps) ≡ Some p.number
  -- while it holds a count it owns a deque and has found no stop
  pub counts : v.counting ≡ true → ((id : DequeId) × (v.deque ≡ Some id)) × (v.found ≡ None)
  -- the worker for whom it enters owns no deque, and it has a place for it
  pub enters : (worker : ℕ) → v.enters ≡ Some worker → (2 ≤ v.places) × ((id : DequeId) → ¬ Among (place_of id (Some worker)) h.list.places)
  -- a stop that it found has its cause, and an end that it was answered is kept
  pub found : (stop : Stop) → v.found ≡ Some stop → HasCauseAmong s limits steps m leads stop
  pub answered : (end : End) → v.answered ≡ Some end → h.list.kept ≡ Some end

-- The law of the seats, the count word and the end, where a hall stands at a moment.
pub record Crew (s : Setting) (limits : Limits) (h : Hall) (steps : List Step) (m : Moment) (leads : Leads s steps m) (count : ℕ)
    (views : List View) : Type 0 where
  -- the places of all seats are those of the workers
  pub places : total places_held views ≡ s.workers
  -- The list names each worker for whom a seat stands, and nobody twice. A worker that it does not name owns no deque.
  pub named : (worker : ℕ) → times worker h.list.crew ≡ total (stands_for worker) views
  pub sized : length h.list.crew ≡ total workers_of views
  pub once : (worker : ℕ) → times worker h.list.crew ≤ 1
  pub numbered : Each (λ worker. worker < s.workers) h.list.crew
  pub owners : Each (λ place. (worker : ℕ) → place.owner ≡ Some worker → 0 < times worker h.list.crew) h.list.places
  -- the count word, up to the limit, is what is done and the counts that seats hold; and so far it may be above the limit
  pub counted : min count limits.actions ≡ length (booked m.books) + total one_if_counting views
  pub above : count ≤ limits.actions + (total one_if_late views + missing h.list.kept s.workers (length h.list.crew))
  -- each step is of its seat's period, and of a seat that there is
  pub in_periods : InTheirPeriods steps
  pub known : Each (λ step. step.seat < length views) steps
  -- a seat that has no place was joined
  pub unplaced : Each (λ v. v.places ≡ 0 → v ≡ joined) views
  pub seats : (seat : ℕ) (v : View) → slice_get views seat ≡ Some v → 0 < v.places → SeatStands s limits h steps m leads seat v
  -- where no seat has yielded, no give up was free
  pub none_free : Each (λ v. v.yielded ≡ false) views → NoneFree s steps m leads
  pub kept : (end : End) → h.list.kept ≡ Some end → MayBeKept s limits steps m leads h.list.places end
