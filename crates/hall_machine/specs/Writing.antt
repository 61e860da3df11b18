-- A worker at work, and what its event writes into the slots.
use Rattle.std.specs.Prelude.{◌≡◌, ℕ, suc, ◌+◌, true, Bool, Option, None, Some, List, [], ◌∷◌, ◌++◌, pos, ◌+ℤ◌, slice_set}
use Rattle.depth_first_list.specs.Passed.ActionId.{ActionId}
use Rattle.depth_first_list.specs.Passed.Birth.{Birth}
use Rattle.depth_first_list.specs.Actions.{Action}
use Rattle.depth_first_list.specs.Facts.{action_at, weight_at}
use Rattle.deque_list.specs.declared.deque_id.DequeId.{DequeId}
use Rattle.deque_list.specs.declared.place.Place.{Place}
use Rattle.deque_machine.specs.Moments.{Moment}
use Rattle.deque_machine.specs.Machine.{Setting, Event}
use Rattle.deque_machine.specs.Runs.{is_move}
use Rattle.space_ledger.specs.declared.moved.Moved.{Moved}
use Rattle.moment_laws.specs.Passed.Periods.{Period}
use Rattle.moment_laws.specs.Passed.Parts.{Child, Thread, Result}
use Rattle.moment_laws.specs.Passed.ListChangesEvents.{DidAlone, DidJoin, DidFork}
use Rattle.moment_laws.specs.Moves.{noted_if}
use Rattle.hall_machine.specs.Values.{ListShown, PoolShown, LaneShown, Hall, lane_at, open_for}
use Rattle.hall_machine.specs.Steps.{Step, Told}
use Rattle.hall_machine.specs.Standing.{HallStands}

-- a deque with its owner or none, and a lane with its threads and its period or none
abbrev pub place_of : DequeId → Option ℕ → Place
place_of id owner = record { id = id; owner = owner }

abbrev pub lane_with : List Thread → Option Period → LaneShown
lane_with threads period = record { threads = threads; period = period }

-- A worker is at work: the list gives it a deque, and in the lane of this a thread is on top and a period runs.
pub record IsAtWork (h : Hall) (worker : ℕ) : Type 0 where
  pub left : List Place
  pub id : DequeId
  pub right : List Place
  pub top : Thread
  pub under : List Thread
  pub period : Period
  pub places_are : h.list.places ≡ left ++ place_of id (Some worker) ∷ right
  pub lane_is : lane_at h.lanes id ≡ lane_with (top ∷ under) (Some period)

-- its lane is written, and the list and the pool, or as they were
abbrev pub written : {h : Hall} {worker : ℕ} → IsAtWork h worker → ListShown → PoolShown → LaneShown → Hall
written {h} w list pool lane = record { list = list; pool = pool; lanes = slice_set h.lanes w.id.0 lane }

-- the list in which its deque has no owner, or is gone, and its period is among the closed ones
abbrev pub list_unowned : {h : Hall} {worker : ℕ} → IsAtWork h worker → Period → ListShown
list_unowned {h} w closed =
    record h.list { places = w.left ++ place_of w.id None ∷ w.right; closed = h.list.closed ++ closed ∷ [] }

abbrev pub list_without : {h : Hall} {worker : ℕ} → IsAtWork h worker → Period → ListShown
list_without {h} w closed = record h.list { places = w.left ++ w.right; closed = h.list.closed ++ closed ∷ [] }

-- who owns a deque is at work
abbrev pub OwnersAreAtWork : Setting → Type 0
OwnersAreAtWork s = (h : Hall) (steps : List Step) (m : Moment) → HallStands s h steps m → (left right : List Place) (id : DequeId) (worker : ℕ)
    → h.list.places ≡ left ++ place_of id (Some worker) ∷ right → (w : IsAtWork h worker) × (w.id ≡ id)

-- The slot of a lane comes after those of the list and of the pool. What is written into a slot is written into the part that it holds.
abbrev pub lane_slot : DequeId → ℕ
lane_slot id = suc (suc id.0)

-- a step of a worker at work, in the period that runs
abbrev pub step_of : {h : Hall} {worker : ℕ} → IsAtWork h worker → (seat : ℕ) → Event → Told → Step
step_of {h} {worker} w seat event told =
    record { seat = seat; worker = worker; period = w.period.number; event = event; told = told }

-- the pool after the action of this name at a place: its words changed by the weight of the action, which it noted if it is a move
pub record PoolTakes (l : List Action) (place : ℕ) (name : ActionId) (before after : PoolShown) : Type 0 where
  pub live : pos after.live ≡ pos before.live +ℤ weight_at l place
  pub move : Moved
  pub by : move.by ≡ name
  pub change : move.change ≡ weight_at l place
  pub moves : after.moves ≡ before.moves ++ noted_if (is_move (action_at l place)) move

-- What the top thread does in its own lane, under this name at a place: the threads of the lane afterwards, the words that it takes of the
-- quota, and the births.
pub data ActsInLane (k : ℕ) (l : List Action) {h : Hall} {worker : ℕ} (w : IsAtWork h worker) (place : ℕ) (name : ActionId)
    : List Thread → (words : ℕ) → List Birth → Type 0 where
  -- an Alloc, a Release or a Fault
  acts_alone : (new : Thread) (words : ℕ) → DidAlone k l (open_for worker w.period) w.top new name words place
      → ActsInLane k l w place name (new ∷ w.under) words []
  -- the Join of a child whose result was handed to it
  joins_handed : (new : Thread) (words : ℕ) → DidJoin k l w.top new name words place
      → ActsInLane k l w place name (new ∷ w.under) words []
  -- a Fork, which puts the child on top
  forks_child : (new child : Thread) (words ordinal : ℕ) → DidFork k l (open_for worker w.period) w.top new child name words place ordinal
      → ActsInLane k l w place name (child ∷ new ∷ w.under) words (record { parent = w.top.id; ordinal = ordinal } ∷ [])

-- a thread was handed the result of one of its open children
pub record IsHanded (was : Thread) (result : Result) (new : Thread) : Type 0 where
  pub front : List Child
  pub child : Child
  pub back : List Child
  pub children_were : was.children ≡ front ++ child ∷ back
  pub child_is : child.id ≡ result.id
  pub same_id : new.id ≡ was.id
  pub same_parent : new.parent ≡ was.parent
  pub same_label : new.label ≡ was.label
  pub same_func : new.func ≡ was.func
  pub same_done : new.done ≡ was.done
  pub children :
      new.children ≡ front ++ record { id = child.id; ordinal = child.ordinal; func = child.func; delivered = true } ∷ back
  pub words : new.words ≡ was.words + result.words

-- a period that begins for a worker, which has this number and is marked or not
abbrev pub new_period : ℕ → Bool → ℕ → Period
new_period worker ahead number = record { number = number; ahead = ahead; owner = Some worker; used = 0; ran = []; born = [] }
