-- What an owner has in its hands once its top thread has come to its next action.
use Rattle.std.specs.Prelude.{◌≡◌, ℕ, ◌+◌, ◌≤◌, ◌<◌, None, Some, List, [], ◌∷◌, ◌++◌, Result, Ok, Err}
use Rattle.std.specs.Option.{option_map}
use Rattle.containers.specs.BoundedList.{spare}
use Rattle.hall_parts.specs.HallNames.{DequeId, Each, table_of, quota_of, IsKey, running_shown, HallSeat, IsTaken, IsRefused, HallKey, LaneSlot, SeatNote}
use Rattle.hall_parts.specs.HallNames.{Slot, JoinsNewest, IsAtPoint, children_of, done_of, next_of, Next, with_hand}
use Rattle.depth_first_list.specs.Actions.{record_words}
use Rattle.depth_first_list.specs.declared.quota.Quota.{Quota}
use Rattle.language_limits.specs.declared.TheConstants.{GREATEST_COUNT, GREATEST_QUOTA}
use Rattle.node_table.specs.declared.node_table.NodeTable.{NodeTable}
use Rattle.hall_parts.specs.Passed.StopVariants.{OutOfMemory as NoMemory}
use Rattle.turn_table.specs.declared.look.Look.{Look}
use Rattle.turn_table.specs.declared.look.Look.TheVariants.{Took}
use Rattle.hall_parts.specs.Here.{HasRoomHere}
use Rattle.hall_parts.specs.Puts.{HasPut}
use Rattle.hall_parts.specs.EventParts.{IsAtAction, IsNext, MayPause}
use Rattle.hall_parts.specs.Taken.{its_lane}
use Rattle.hall_actions.specs.Reads.{ReadsLane}
use Rattle.hall_slots.specs.declared.slot.Slot.TheVariants as slots
use Rattle.hall_actions.specs.declared.refused.ActRefused.{ActRefused}
use Rattle.hall_actions.specs.declared.refused.ActRefused.TheVariants.{Busy, Over, Stopped}
use Rattle.hall_actions.specs.declared.at_next.AtNext.{AtNext}
use Rattle.hall_actions.specs.declared.memory.SeatMemory.{SeatMemory}

-- The seat may come to its next event: it is in, owns the deque, holds nothing and no count, and has found no stop.
pub record MayCome (seat : HallSeat) (deque : DequeId) : Type 0 where
  pub may : MayPause seat deque
  pub none : seat.hand.note.found ≡ None
  pub free : seat.hand.holds ≡ []

-- The quota covers a record block, and the numbers are within their bounds.
pub record IsWithin (key : HallKey) (at : AtNext) : Type 0 where
  pub quota : record_words ≤ quota_of key
  pub small : quota_of key ≤ GREATEST_QUOTA
  pub few : key.actions < GREATEST_COUNT
  pub used : at.running.period.used ≤ quota_of key
  pub done : done_of at.top ≤ key.actions

-- The top thread of the lane that was taken has come to this action, which the depth-first list has for it, and has done nothing. All threads are
-- at their points, and there is memory for two threads more, an action and a birth, where a list for so many births is ready.
pub record IsAtNext (key : HallKey) (lane : LaneSlot) (at : AtNext) (next : Next) (ready : ℕ) : Type 0 where
  pub within : IsWithin key at
  pub at_action : IsAtAction lane at.top at.lane.items at.running.worker at.running.period
  pub point : IsAtPoint (table_of key) (quota_of key) at.top
  pub under : Each (IsAtPoint (table_of key) (quota_of key)) at.lane.items
  pub room : HasRoomHere 2 at.lane at.running.period ready
  pub next_is : next_of at.top ≡ Some next
  pub newest : JoinsNewest next (children_of at.top)
  pub listed : IsNext key at.top next

-- The program and the quota of the hall.
pub record IsRunBy (key : HallKey) (code : NodeTable) (quota : Quota) : Type 0 where
  pub program : key.code.value ≡ code
  pub terms : key.quota ≡ quota

-- The seat holds its lane alone, as it took it. What it has of it now has the same threads and shows the same period, perhaps with more room.
pub record IsReadable (key : HallKey) (seat : HallSeat) (deque : DequeId) (was lane : LaneSlot) : Type 0 where
  pub may : MayPause seat deque
  pub none : seat.hand.note.found ≡ None
  pub holds : seat.hand.holds ≡ its_lane deque was
  pub items : lane.lane.items ≡ was.lane.items
  pub shown : option_map running_shown lane.running ≡ option_map running_shown was.running
  pub reads : ReadsLane key seat was
  pub is_key : IsKey key

-- The top thread is before its next action; or the lane went back since memory was wanting.
abbrev pub RunsOn : HallKey → HallSeat → LaneSlot → (ready : ℕ) → Result (AtNext × Next) ActRefused → HallSeat → Type 0
RunsOn key before was ready (Ok come) after = (after ≡ before) × IsAtNext key was come.0 come.1 ready
RunsOn key before was ready (Err (Busy held)) after = ⊥
RunsOn key before was ready (Err (Over end)) after = ⊥
RunsOn key before was ready (Err (Stopped stop)) after = (stop ≡ NoMemory) × HasPut before (record before.hand.note { found = Some stop }) [] after

-- The seat holds nothing, notes this, and had these answers.
abbrev pub HasLooked : HallSeat → List (Look Slot) → SeatNote → HallSeat → Type 0
HasLooked before more note after = after ≡ with_hand before (record {
  seated = before.hand.seated;
  holds = [];
  note = note;
  looks = before.hand.looks ++ more;
})

-- the answer that a seat took the lane of a deque
abbrev pub took_lane : DequeId → LaneSlot → Look Slot
took_lane deque lane = Took (deque.0 + 2) (slots.Lane lane)

-- The seat holds the lane that it took, and its top thread is there; or it was refused the lane; or memory was wanting, which it notes.
abbrev pub HasCome : HallKey → HallSeat → DequeId → SeatMemory → Result (AtNext × Next) ActRefused → HallSeat → Type 0
HasCome key before deque memory (Ok come) after =
    (lane : LaneSlot) × IsTaken before (deque.0 + 2) (slots.Lane lane) after × IsAtNext key lane come.0 come.1 (spare memory.births)
HasCome key before deque memory (Err (Busy held)) after = IsRefused before (deque.0 + 2) held after
HasCome key before deque memory (Err (Over end)) after = ⊥
HasCome key before deque memory (Err (Stopped stop)) after = (stop ≡ NoMemory)
    × ((lane : LaneSlot) × HasLooked before (took_lane deque lane ∷ []) (record before.hand.note { found = Some stop }) after)

-- no slot was refused to it
abbrev pub IsNotBusy : {T : Type 0} → Result T ActRefused → Type 0
IsNotBusy (Ok value) = Unit {0}
IsNotBusy (Err (Busy held)) = ⊥
IsNotBusy (Err (Over end)) = Unit {0}
IsNotBusy (Err (Stopped stop)) = Unit {0}
