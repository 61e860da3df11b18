-- Which threads of a hall are at their points of the depth-first run.
use Rattle.std.specs.Prelude.{◌≡◌, ◌⊎◌, ℕ, false, Option, None, Some, List, [], ◌∷◌, slice_get, slice_set}
use Rattle.deque_list.specs.declared.deque_id.DequeId.{DequeId}
use Rattle.deque_list.specs.declared.place.Place.{Place}
use Rattle.deque_machine.specs.Lists.{Among, Each}
use Rattle.hall_machine.specs.Values.{no_memory, End}
use Rattle.hall_machine.specs.Writing.{place_of}
use Rattle.hall_machine.specs.Views.{View}

-- The top thread of a deque may be short of its point if its owner's seat is in and found that memory was wanting, or if nobody owns the deque
-- and an end is kept. No such thread is run again.
abbrev pub IsExcused : List View → Option End → Option ℕ → Type 0
IsExcused views kept None = (end : End) × (kept ≡ Some end)
IsExcused views kept (Some worker) =
    (seat : ℕ) × (v : View) × (slice_get views seat ≡ Some v) × (v.worker ≡ worker) × (v.left ≡ false) × (v.found ≡ Some no_memory)

-- the threads of a lane are at their points, but for a top one that is excused
abbrev pub LaneAtPoints : {T : Type 0} → (T → Type 0) → (Excused : Type 0) → List T → Type 0
LaneAtPoints At Excused [] = Unit {0}
LaneAtPoints At Excused (top ∷ under) = (At top ⊎ Excused) × Each At under

-- so is it with the lanes of all deques, and the threads that wait are at theirs
pub record AreAtPoints {T : Type 0} (At : T → Type 0) (views : List View) (kept : Option End) (places : List Place) (threads : DequeId → List T)
    (waiting : List T) : Type 0 where
  pub in_lanes : Each (λ place. LaneAtPoints At (IsExcused views kept place.owner) (threads place.id)) places
  pub that_wait : Each At waiting

-- A deque after a step: its threads are at their points, or they are those that it had before, with this owner or another, and who was excused is.
abbrev pub StaysAtPoints : {T : Type 0} → (T → Type 0) → (views views_now : List View) (kept kept_now : Option End) → (places : List Place)
    → (threads threads_now : DequeId → List T) → Place → Type 0
StaysAtPoints At views views_now kept kept_now places threads threads_now place = Each At (threads_now place.id)
    ⊎ ((owner : Option ℕ) × Among (place_of place.id owner) places × (threads_now place.id ≡ threads place.id)
    × (IsExcused views kept owner → IsExcused views_now kept_now place.owner))

-- where it is so with each deque, and with those that wait, all are at their points after the step
abbrev pub PointsGoOn : {T : Type 0} → (T → Type 0) → Type 0
PointsGoOn {T} At = (views views_now : List View) (kept kept_now : Option End) (places places_now : List Place)
    (threads threads_now : DequeId → List T) (waiting waiting_now : List T) → AreAtPoints At views kept places threads waiting
    → Each (StaysAtPoints At views views_now kept kept_now places threads threads_now) places_now → Each At waiting_now
    → AreAtPoints At views_now kept_now places_now threads_now waiting_now

-- who was excused is, where one seat notes something else but keeps its worker and its want of memory, and a kept end stays
abbrev pub ExcusesStay : Type 0
ExcusesStay = (views : List View) (seat : ℕ) (v w : View) (kept kept_now : Option End) (owner : Option ℕ) → slice_get views seat ≡ Some v
    → w.worker ≡ v.worker → (v.left ≡ false → v.found ≡ Some no_memory → (w.left ≡ false) × (w.found ≡ Some no_memory))
    → ((end : End) → kept ≡ Some end → kept_now ≡ Some end) → IsExcused views kept owner → IsExcused (slice_set views seat w) kept_now owner
