-- What the looks of a seat show of a choice.
use Rattle.std.specs.Prelude.{◌≡◌, ◌≢◌, ◌⊎◌, ℕ, ◌+◌, ◌<◌, ◌≤◌, ◌%◌, min, None, Some, List, [], ◌∷◌, ◌++◌, length, slice_get}
use Rattle.deque_list.specs.declared.deque_id.DequeId.{DequeId}
use Rattle.deque_list.specs.declared.place.Place.{Place}
use Rattle.deque_machine.specs.Lists.{Among}
use Rattle.deque_machine.specs.Machine.{Setting}
use Rattle.deque_machine.specs.Play.{IsFirst}
use Rattle.moment_laws.specs.Passed.Choices.{IsReadyAt, reach_of}
use Rattle.hall_machine.specs.Values.{ListShown, LaneShown, Value, of_list, of_lane, End, Hall, lane_at, deques_of}
use Rattle.hall_machine.specs.Writing.{lane_slot}

-- a look of a seat: a slot that it took, with what this showed; a slot that was held, with the word found; or a count, with the number found
pub data Look : Type 0 where
  took : ℕ → Value → Look
  held : (slot seen : ℕ) → Look
  counted : ℕ → Look

-- a lane that it took showed this
abbrev pub SawLane : List Look → DequeId → LaneShown → Type 0
SawLane looks id lane = Among (took (lane_slot id) (of_lane lane)) looks

-- the deque at a place has a thread to steal, by these looks, or has none
abbrev pub ShowsReady : List Look → Place → Type 0
ShowsReady looks place = (place.owner ≡ None) ⊎ ((lane : LaneShown) × SawLane looks place.id lane × (2 ≤ length lane.threads))

abbrev pub ShowsUnready : List Look → Place → Type 0
ShowsUnready looks place = (place.owner ≢ None) × ((lane : LaneShown) × SawLane looks place.id lane × (length lane.threads < 2))

-- the thief's choice for its word: the deque at this place is ready, and each that it tries before is not
pub record ShowsVictim (workers word : ℕ) (looks : List Look) (places : List Place) (place : ℕ) : Type 0 where
  pub turns : ℕ
  pub few : turns < min workers (length places)
  pub is : place ≡ (word + turns) % min workers (length places)
  pub ready : (p : Place) × (slice_get places place ≡ Some p) × ShowsReady looks p
  pub earlier : (e : ℕ) (p : Place) → e < turns → slice_get places ((word + e) % min workers (length places)) ≡ Some p → ShowsUnready looks p

-- the end that the list showed, and a slot that was held last
abbrev pub ShowsEnd : List Look → End → Type 0
ShowsEnd looks end = (list : ListShown) × Among (took 0 (of_list list)) looks × (list.kept ≡ Some end)

abbrev pub ShowsBusy : List Look → (slot seen : ℕ) → Type 0
ShowsBusy looks slot seen = (before : List Look) × (looks ≡ before ++ held slot seen ∷ [])

-- the lanes that were seen are those of the hall: while the list is held nobody takes a lane away or puts a thread into it
abbrev pub SawTheLanes : List Look → Hall → Type 0
SawTheLanes looks h = (id : DequeId) (lane : LaneShown) → SawLane looks id lane → lane.threads ≡ LaneShown.threads (lane_at h.lanes id)

-- then the choice is the one that the rules of play make of its deques
abbrev pub VictimsAreFirst : Setting → Type 0
VictimsAreFirst s = (h : Hall) (looks : List Look) (word place : ℕ) → SawTheLanes looks h → ShowsVictim s.workers word looks h.list.places place
    → IsFirst (reach_of s.workers (deques_of h)) word (IsReadyAt (deques_of h)) place
