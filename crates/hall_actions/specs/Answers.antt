-- How an owner is answered the end that is kept in the list.
use Rattle.std.specs.Prelude.{◌≡◌, ◌<◌, Some}
use Rattle.hall_parts.specs.HallNames.{DequeId, HallSeat, HallKey, LaneSlot, ListSlot, HasAs, with_hand}
use Rattle.hall_parts.specs.Passed.RunEnd.{RunEnd}
use Rattle.turn_table.specs.Hands.{gave}
use Rattle.turn_table.specs.Backs.{unchanged}
use Rattle.hall_slots.specs.Lists.{answered_note}
use Rattle.hall_slots.specs.declared.slot.Slot.TheVariants as slots
use Rattle.hall_parts.specs.Taken.{list_and_lane}
use Rattle.hall_actions.specs.Returning.{ReturnsLane}

-- The seat holds this list, in which an end is kept, among others.
pub record HoldsAnEnd (seat : HallSeat) (list : ListSlot) : Type 0 where
  pub placed : 0 < seat.hand.note.places
  pub holds : HasAs 0 (slots.List list) seat.hand.holds
  pub end : RunEnd
  pub kept : list.end ≡ Some end

-- It put the list back, and was answered the end.
abbrev pub GivesAnswered : HallSeat → ListSlot → HallSeat → Type 0
GivesAnswered before list after = after ≡ with_hand before (gave (λ hand. answered_note hand.note list) unchanged before.hand 0)

-- It holds this list, in which an end is kept, and its lane, which shows what it showed.
pub record ReturnsEnded (key : HallKey) (seat : HallSeat) (deque : DequeId) (list : ListSlot) (lane : LaneSlot) : Type 0 where
  pub lane_was : LaneSlot
  pub holds : seat.hand.holds ≡ list_and_lane deque list lane_was
  pub end : RunEnd
  pub kept : list.end ≡ Some end
  pub lane_same : ReturnsLane key seat deque lane_was lane
