-- What a seat writes into a hall: the list, the pool, and the lane of its deque.
use Rattle.std.specs.Prelude.{◌≡◌, ◌≢◌, ◌⊎◌, ℕ, ◌<◌, false, Option, None, Some, List, [], ◌∷◌, ◌++◌, map, slice_get, slice_set}
use mathlib.Core.Option.{some}
use lib.ListN.{get_elem?}
use Rattle.play_rules.specs.declared.stop.Stop.{Stop}
use Rattle.play_rules.specs.declared.stop.Stop.TheVariants.{OutOfMemory}
use Rattle.dag_order.specs.Births.{root}
use Rattle.dag_order.specs.declared.finish.Finish.{Finish}
use Rattle.hall_parts.specs.HallNames.{DequeId, Each, Event, LaneSlot, ListSlot, PoolSlot, SeatNote, Slot, list_shown, pool_shown, lane_shown, view_of}
use Rattle.hall_parts.specs.HallNames.{HallKey, table_of, quota_of, terms_of, HallSeat, Terms, machine_of, Setting, kept_under, Hall, lane_at}
use Rattle.hall_parts.specs.HallNames.{thread_that_waits, PoolIsSound, ListIsSound}
use Rattle.deque_list.specs.declared.place.Place.{Place}
use Rattle.hall_slots.specs.Passed.Roots.{end_of_root}
use Rattle.play_rules.specs.declared.ends.RunEnd.{RunEnd}
use Rattle.play_rules.specs.declared.ends.RunEnd.TheVariants.{Finished}
use Rattle.hall_slots.specs.Passed.ThreadFramesPoints.{IsAtPoint}
use Rattle.thread_state.specs.Settings.{IsSettingOf}
use Rattle.hall_slots.specs.Passed.HallMachineViews.{View}
use Rattle.hall_slots.specs.Passed.Writing.{lane_slot, place_of}
use Rattle.hall_slots.specs.Passed.HallMachinePoints.{LaneAtPoints}
use Rattle.hall_slots.specs.declared.slot.Slot.TheVariants as slots
use Rattle.hall_slots.specs.Law.{HallHolds}
use Rattle.hall_slots.specs.Steps.{IsRunning}

-- the list, the pool and the lane of one deque
pub record Parts : Type 0 where
  pub list : ListSlot
  pub pool : PoolSlot
  pub lane : LaneSlot

abbrev pub parts : ListSlot → PoolSlot → LaneSlot → Parts
parts list pool lane = record { list = list; pool = pool; lane = lane }

-- A hall with these parts, and the slots with them: all else is as it was.
abbrev pub hall_with : Hall → DequeId → Parts → Hall
hall_with h deque now = record {
  list = list_shown now.list;
  pool = pool_shown now.pool;
  lanes = slice_set h.lanes deque.0 (lane_shown now.lane);
}

abbrev pub slots_with : List Slot → DequeId → Parts → List Slot
slots_with shown deque now =
    slice_set (slice_set (slice_set shown (lane_slot deque) (slots.Lane now.lane)) 1 (slots.Pool now.pool)) 0 (slots.List now.list)

-- these parts are in their slots
pub record AreIn (shown : List Slot) (deque : DequeId) (now : Parts) : Type 0 where
  pub list : get_elem? shown 0 ≡ some (slots.List now.list)
  pub pool : get_elem? shown 1 ≡ some (slots.Pool now.pool)
  pub lane : get_elem? shown (lane_slot deque) ≡ some (slots.Lane now.lane)

-- the note of a seat after an event, by which it owns this deque, or none
abbrev pub told_note : SeatNote → Option DequeId → Event → SeatNote
told_note note owns event = record note { deque = owns; counting = false; mine = note.mine ++ event ∷ [] }

-- a seat that has a place owns this deque
pub record IsOwner (seat : HallSeat) (deque : DequeId) : Type 0 where
  pub placed : 0 < seat.hand.note.places
  pub owns : seat.hand.note.deque ≡ Some deque

-- Wherever a hall is in a running state that has these parts, and the seat its note, it is in one again once the parts are those and the seat
-- notes this. So it is for each program that the key may be of.
abbrev pub MayBecome : HallKey → HallSeat → DequeId → (was now : Parts) → SeatNote → Type 0
MayBecome key seat deque was now note =
    (c : Setting) → IsSettingOf (table_of key) (quota_of key) c → (h : Hall) (count : ℕ) (views : List View)
    → IsRunning (machine_of c (terms_of key)) (Terms.limits (terms_of key)) h count views → h.list ≡ list_shown was.list
    → h.pool ≡ pool_shown was.pool → lane_at h.lanes deque ≡ lane_shown was.lane → slice_get views seat.number ≡ Some (view_of seat.hand.note)
    → ∥ IsRunning (machine_of c (terms_of key)) (Terms.limits (terms_of key)) (hall_with h deque now) count
    (slice_set views seat.number (view_of note)) ∥₁

-- What becomes of the deque in the list: it stays; it stays without an owner, and no period runs in its lane; or it is gone, and its lane is
-- empty.
pub data BecomesOf (deque : DequeId) (lane : LaneSlot) (was now : List Place) : Type 0 where
  stays : now ≡ was → BecomesOf deque lane was now
  loses_owner : (left right : List Place) (owner : Option ℕ) → was ≡ left ++ place_of deque owner ∷ right
      → now ≡ left ++ place_of deque None ∷ right → lane.running ≡ None → BecomesOf deque lane was now
  goes : (left right : List Place) (owner : Option ℕ) → was ≡ left ++ place_of deque owner ∷ right → now ≡ left ++ right
      → lane.lane.items ≡ [] → lane.running ≡ None → BecomesOf deque lane was now

-- The top thread of the lane may be short of its point where its owner, who keeps the deque, is in and found that memory was wanting.
abbrev pub IsShort : SeatNote → (was now : List Place) → Type 0
IsShort note was now = (note.left ≡ false) × (note.found ≡ Some OutOfMemory) × (now ≡ was)

-- The parts stay sound once they are so and the seat notes this. An end is kept as it was, or it is that of the root's result. A seat that found
-- lack of memory does not leave, and one is answered only an end that is kept.
pub record StaySound (key : HallKey) (seat : HallSeat) (deque : DequeId) (was now : Parts) (note : SeatNote) : Type 0 where
  pub pool : PoolIsSound key was.pool → PoolIsSound key now.pool
  pub list : ListIsSound key was.list → ListIsSound key now.list
  pub waiting : Each (IsAtPoint (table_of key) (quota_of key)) (map thread_that_waits was.list.part.waiting.entries)
      → Each (IsAtPoint (table_of key) (quota_of key)) (map thread_that_waits now.list.part.waiting.entries)
  pub becomes : BecomesOf deque now.lane was.list.part.order.places now.list.part.order.places
  pub points : LaneAtPoints (IsAtPoint (table_of key) (quota_of key)) (IsShort note was.list.part.order.places now.list.part.order.places)
      now.lane.lane.items
  pub ends : (end : RunEnd) → was.list.end ≡ Some end → now.list.end ≡ Some end
  pub finished : (finish : Finish) → now.list.end ≡ Some (Finished finish) → (was.list.end ≡ Some (Finished finish))
      ⊎ (end_of_root (kept_under now.list.part.results root) ≡ Some (Finished finish))
  pub worker : note.worker ≡ seat.hand.note.worker
  pub left : (note.left ≡ seat.hand.note.left) ⊎ (seat.hand.note.found ≢ Some OutOfMemory)
  pub answered : (end : RunEnd) → note.answered ≡ Some end → (seat.hand.note.answered ≡ Some end) ⊎ (now.list.end ≡ Some end)
  pub found : (stop : Stop) → seat.hand.note.found ≡ Some stop → note.found ≡ Some stop

-- Then the law holds with the parts in their slots.
abbrev pub WrittenHallsHold : Type 0
WrittenHallsHold = (key : HallKey) (seat : HallSeat) (deque : DequeId) (was now : Parts) (note : SeatNote) → IsOwner seat deque
    → MayBecome key seat deque was now note → StaySound key seat deque was now note → (shown : List Slot) (count : ℕ) (notes : List SeatNote)
    → HallHolds key shown count notes → AreIn shown deque was → get_elem? notes seat.number ≡ some seat.hand.note
    → HallHolds key (slots_with shown deque now) count (slice_set notes seat.number note)
