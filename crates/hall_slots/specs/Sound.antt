-- What holds of the parts in the slots of a hall, beside what they show of it.
use Rattle.std.specs.Prelude.{◌≡◌, ◌≢◌, ℕ, ◌≤◌, Option, None, Some, List, [], map, pos, slice_get}
use Rattle.std.specs.Option.{option_map}
use Rattle.dag_order.specs.Births.{root}
use Rattle.dag_order.specs.declared.finish.Finish.{Finish}
use Rattle.dag_order.specs.declared.thread_id.ThreadId.{ThreadId}
use Rattle.deque_list.specs.declared.deque_id.DequeId.{DequeId}
use Rattle.deque_machine.specs.Lists.{Each}
use Rattle.space_ledger.specs.MovesList.{moves_list}
use Rattle.space_ledger.specs.Sums.{total_change}
use Rattle.thread_map.specs.Kept.{kept_under}
use Rattle.thread_frames.specs.declared.thread.Thread.{Thread}
use Rattle.thread_frames.specs.Points.{IsAtPoint, IsResult}
use Rattle.thread_frames.specs.Kept.{WaitsUnder, IsUnderItsId}
use Rattle.thread_frames.specs.Roots.{end_of_root}
use Rattle.play_rules.specs.declared.ends.RunEnd.{RunEnd}
use Rattle.play_rules.specs.declared.ends.RunEnd.TheVariants.{Finished}
use Rattle.hall_machine.specs.Writing.{lane_slot}
use Rattle.hall_machine.specs.Points.{AreAtPoints}
use Rattle.hall_slots.specs.declared.list_slot.ListSlot.{ListSlot}
use Rattle.hall_slots.specs.declared.pool_slot.PoolSlot.{PoolSlot}
use Rattle.hall_slots.specs.declared.lane_slot.LaneSlot.{LaneSlot}
use Rattle.hall_slots.specs.declared.slot.Slot.{Slot}
use Rattle.hall_slots.specs.declared.slot.Slot.TheVariants as slots
use Rattle.hall_slots.specs.declared.seat_note.SeatNote.{SeatNote}
use Rattle.hall_slots.specs.Shown.{view_of, end_shown}
use Rattle.hall_slots.specs.declared.key.HallKey.{HallKey}
use Rattle.hall_slots.specs.Keys.{table_of, quota_of}

-- the threads in a slot, from top to bottom; a slot that is no lane has none
abbrev pub threads_in : Option Slot → List Thread
threads_in None = []
threads_in (Some (slots.List list)) = []
threads_in (Some (slots.Pool pool)) = []
threads_in (Some (slots.Lane lane)) = lane.lane.items

-- the threads of a deque, and the lane of a deque
abbrev pub threads_of : List Slot → DequeId → List Thread
threads_of shown id = threads_in (slice_get shown (lane_slot id))

abbrev pub IsLaneOf : List Slot → DequeId → LaneSlot → Type 0
IsLaneOf shown id lane = slice_get shown (lane_slot id) ≡ Some (slots.Lane lane)

abbrev pub thread_that_waits : ThreadId × Thread → Thread
thread_that_waits entry = entry.1

-- The words in use are those that the moves sum to, and within the pool.
pub record PoolIsSound (key : HallKey) (pool : PoolSlot) : Type 0 where
  pub capacity : pool.pool.capacity ≡ key.capacity
  pub within : pool.pool.live ≤ pool.pool.capacity
  pub sum : total_change (moves_list pool.moves) ≡ pos pool.pool.live

-- What waits and each result is under its id; each result is that of its thread; and as many deques as the key says may be there.
pub record ListIsSound (key : HallKey) (list : ListSlot) : Type 0 where
  pub most : list.part.order.most ≡ key.deques
  pub waiting : Each WaitsUnder list.part.waiting.entries
  pub under_ids : Each IsUnderItsId list.part.results.entries
  pub results : Each (λ entry. IsResult (table_of key) (quota_of key) entry.1) list.part.results.entries

-- The threads are at their points, but for those that are excused.
abbrev pub ThreadsAreAtPoints : HallKey → List Slot → List SeatNote → ListSlot → Type 0
ThreadsAreAtPoints key shown notes list =
    AreAtPoints (IsAtPoint (table_of key) (quota_of key)) (map view_of notes) (option_map end_shown list.end) list.part.order.places
    (threads_of shown) (map thread_that_waits list.part.waiting.entries)

-- The lane of a deque that is not in the list is empty, and no period runs in the lane of a deque that nobody owns.
pub record LanesAreInUse (shown : List Slot) (list : ListSlot) : Type 0 where
  pub spare : (id : DequeId) (lane : LaneSlot) → Each (λ place. place.id ≢ id) list.part.order.places → IsLaneOf shown id lane
      → (lane.lane.items ≡ []) × (lane.running ≡ None)
  pub unowned : Each (λ place. (lane : LaneSlot) → place.owner ≡ None → IsLaneOf shown place.id lane → lane.running ≡ None)
      list.part.order.places

-- An end that a seat was answered is kept, and a kept finish is that of the root's result.
pub record EndIsSound (notes : List SeatNote) (list : ListSlot) : Type 0 where
  pub answered : (seat : ℕ) (note : SeatNote) (end : RunEnd) → slice_get notes seat ≡ Some note → note.answered ≡ Some end
      → list.end ≡ Some end
  pub finished : (finish : Finish) → list.end ≡ Some (Finished finish)
      → end_of_root (kept_under list.part.results root) ≡ Some (Finished finish)

-- So it is with all slots.
pub record PartsAreSound (key : HallKey) (shown : List Slot) (notes : List SeatNote) : Type 0 where
  pub pool : (pool : PoolSlot) → slice_get shown 1 ≡ Some (slots.Pool pool) → PoolIsSound key pool
  pub list : (list : ListSlot) → slice_get shown 0 ≡ Some (slots.List list) → ListIsSound key list
  pub points : (list : ListSlot) → slice_get shown 0 ≡ Some (slots.List list) → ThreadsAreAtPoints key shown notes list
  pub lanes : (list : ListSlot) → slice_get shown 0 ≡ Some (slots.List list) → LanesAreInUse shown list
  pub end : (list : ListSlot) → slice_get shown 0 ≡ Some (slots.List list) → EndIsSound notes list
