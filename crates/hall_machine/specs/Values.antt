-- What the slots of the hall hold, and the parts that they show.
use Rattle.std.specs.Prelude.{ℕ, Option, None, Some, List, [], ◌∷◌, ◌++◌, map, slice_index_or}
use Rattle.deque_list.specs.declared.deque_id.DequeId.{DequeId}
use Rattle.deque_list.specs.declared.place.Place.{Place}
use Rattle.deque_list.specs.Deques.{Deque as DequeOf}
use Rattle.deque_machine.specs.Play as play
use Rattle.moment_laws.specs.Passed.Periods.{Period}
use Rattle.space_ledger.specs.declared.moved.Moved.{Moved}
use Rattle.moment_laws.specs.Passed.Parts.{Thread, Result, Deque, Parts}
use Rattle.moment_laws.specs.Standing.{Showing}

-- what stops a run: a stop of the rules, or want of memory
pub data Stop : Type 0 where
  by_rule : play.Stop → Stop
  no_memory : Stop

-- how a run ends: with the End of the root, or with a stop
pub data End : Type 0 where
  finished : End
  stopped : Stop → End

-- Slot 0, the list: the places of the deques from left to right, the workers that are in, the waiting threads, the results that are kept,
-- the closed periods, how many periods were begun, and the end that is kept, or none.
pub record ListShown : Type 0 where
  pub places : List Place
  pub crew : List ℕ
  pub waiting : List Thread
  pub results : List Result
  pub closed : List Period
  pub begun : ℕ
  pub kept : Option End

-- slot 1, the pool: the words in use, and the moves
pub record PoolShown : Type 0 where
  pub live : ℕ
  pub moves : List Moved

-- Each further slot, the lane of one deque: its threads from top to bottom, and the period that runs in it, or none. Whose period it is the
-- list says, by the owner of the deque.
pub record LaneShown : Type 0 where
  pub threads : List Thread
  pub period : Option Period

-- what a slot holds
pub data Value : Type 0 where
  of_list : ListShown → Value
  of_pool : PoolShown → Value
  of_lane : LaneShown → Value

-- a slot of another kind holds nothing of this one
abbrev pub no_list : ListShown
no_list = record { places = []; crew = []; waiting = []; results = []; closed = []; begun = 0; kept = None }

abbrev pub no_pool : PoolShown
no_pool = record { live = 0; moves = [] }

abbrev pub no_lane : LaneShown
no_lane = record { threads = []; period = None }

abbrev pub list_in : Value → ListShown
list_in (of_list list) = list
list_in (of_pool pool) = no_list
list_in (of_lane lane) = no_list

abbrev pub pool_in : Value → PoolShown
pool_in (of_list list) = no_pool
pool_in (of_pool pool) = pool
pool_in (of_lane lane) = no_pool

abbrev pub lane_in : Value → LaneShown
lane_in (of_list list) = no_lane
lane_in (of_pool pool) = no_lane
lane_in (of_lane lane) = lane

-- the slots by what they hold
pub record Hall : Type 0 where
  pub list : ListShown
  pub pool : PoolShown
  pub lanes : List LaneShown

-- the hall in a list of slots
abbrev pub hall_of : List Value → Hall
hall_of [] = record { list = no_list; pool = no_pool; lanes = [] }
hall_of (list ∷ []) = record { list = list_in list; pool = no_pool; lanes = [] }
hall_of (list ∷ pool ∷ lanes) = record { list = list_in list; pool = pool_in pool; lanes = map lane_in lanes }

-- the lane of a deque, and the deque at a place: the list says its owner, its lane its threads
abbrev pub lane_at : List LaneShown → DequeId → LaneShown
lane_at lanes id = slice_index_or lanes id.0 no_lane

abbrev pub deque_at : List LaneShown → Place → Deque
deque_at lanes place = record { id = place.id.0; owner = place.owner; threads = LaneShown.threads (lane_at lanes place.id) }

-- the same as a list of deques has it, whose items are the threads themselves
abbrev pub the_thread : Thread → Thread
the_thread x = x

abbrev pub deque_of : List LaneShown → Place → DequeOf Thread
deque_of lanes place = record { id = place.id; owner = place.owner; items = LaneShown.threads (lane_at lanes place.id) }

abbrev pub deques_of : Hall → List (DequeOf Thread)
deques_of h = map (deque_of h.lanes) h.list.places

-- the period that runs in a lane is open for the owner of the deque, and nothing runs where nobody owns it
abbrev pub open_for : ℕ → Period → Period
open_for worker period = record period { owner = Some worker }

abbrev pub run_by : Option ℕ → Option Period → List Period
run_by None period = []
run_by (Some worker) None = []
run_by (Some worker) (Some period) = open_for worker period ∷ []

abbrev pub running_at : List LaneShown → Place → List Period
running_at lanes place = run_by place.owner (LaneShown.period (lane_at lanes place.id))

-- the open periods, by the places of the deques in whose lanes they run
abbrev pub running : List LaneShown → List Place → List Period
running lanes [] = []
running lanes (place ∷ right) = running_at lanes place ++ running lanes right

-- the parts that the slots show
abbrev pub parts_of : Hall → Parts
parts_of h = record {
  deques = map (deque_at h.lanes) h.list.places;
  waiting = h.list.waiting;
  results = h.list.results;
  periods = h.list.closed ++ running h.lanes h.list.places;
}

-- and all that they show
abbrev pub showing_of : Hall → Showing
showing_of h = record { parts = parts_of h; live = h.pool.live; begun = h.list.begun; moves = h.pool.moves }
