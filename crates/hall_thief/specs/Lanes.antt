-- A lane that shows what it showed.
use Rattle.std.specs.Prelude.{◌≡◌, ◌+◌}
use Rattle.hall_thief.specs.HallNames.{DequeId, HasAs, LaneSlot, HallSeat}
use Rattle.hall_slots.specs.declared.slot.Slot.TheVariants as slots

-- The seat holds the lane of a deque, and this lane shows the same, perhaps with other room.
pub record HoldsTheSameLane (seat : HallSeat) (deque : DequeId) (lane : LaneSlot) : Type 0 where
  pub before : LaneSlot
  pub held : HasAs (deque.0 + 2) (slots.Lane before) seat.hand.holds
  pub items : lane.lane.items ≡ before.lane.items
  pub running : lane.running ≡ before.running
