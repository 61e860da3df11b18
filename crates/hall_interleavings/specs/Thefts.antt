-- Which theft an idle seat does, by what the looks of its call show.
use Rattle.std.specs.Prelude.{◌≡◌, ◌≢◌, ◌⊎◌, ℕ, ◌<◌, ◌≤◌, None, Some, List, length, slice_get}
use Rattle.deque_list.specs.declared.deque_id.DequeId.{DequeId}
use Rattle.deque_list.specs.declared.place.Place.{Place}
use Rattle.deque_list.specs.Ids.{place_ids, IsSmallestFree}
use Rattle.hall_machine.specs.Values.{LaneShown}
use Rattle.hall_machine.specs.Receipts.{Look, SawLane, ShowsVictim}

-- a deque stays after a theft from it, by these looks: it has an owner or two threads
abbrev pub ShowsStaying : List Look → Place → Type 0
ShowsStaying looks place = (place.owner ≢ None) ⊎ ((lane : LaneShown) × SawLane looks place.id lane × (2 ≤ length lane.threads))

-- or it is taken over: nobody owns it, and it has one thread
abbrev pub ShowsTakenOver : List Look → Place → Type 0
ShowsTakenOver looks place = (place.owner ≡ None) × (lane : LaneShown) × SawLane looks place.id lane × (length lane.threads < 2)

-- the id of the thief's deque: that of the deque that it takes over, and otherwise the smallest that no deque has
pub data ShowsId (looks : List Look) (places : List Place) (victim : Place) : DequeId → Type 0 where
  keeps_its_id : ShowsTakenOver looks victim → ShowsId looks places victim victim.id
  has_free_id : (id : DequeId) → ShowsStaying looks victim → IsSmallestFree (place_ids places) id → ShowsId looks places victim id

-- The looks of an idle seat show a theft for its word: the choice of its victim, and the id of its deque.
pub record ShowsTheft (workers word : ℕ) (looks : List Look) (places : List Place) (place : ℕ) (id : DequeId) : Type 0 where
  pub chosen : ShowsVictim workers word looks places place
  pub victim : Place
  pub there : slice_get places place ≡ Some victim
  pub its_id : ShowsId looks places victim id
