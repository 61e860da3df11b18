-- The slots that a seat holds.
use Rattle.std.specs.Prelude.{ℕ, ◌+◌, List, [], ◌∷◌}
use Rattle.hall_parts.specs.HallNames.{DequeId, LaneSlot, ListSlot, PoolSlot, Slot}
use Rattle.hall_slots.specs.declared.slot.Slot.TheVariants as slots

-- the lane of its deque alone; the pool and the lane; the list and the lane; all three
abbrev pub its_lane : DequeId → LaneSlot → List (ℕ × Slot)
its_lane deque lane = (deque.0 + 2, slots.Lane lane) ∷ []

abbrev pub pool_and_lane : DequeId → PoolSlot → LaneSlot → List (ℕ × Slot)
pool_and_lane deque pool lane = (1, slots.Pool pool) ∷ (deque.0 + 2, slots.Lane lane) ∷ []

abbrev pub list_and_lane : DequeId → ListSlot → LaneSlot → List (ℕ × Slot)
list_and_lane deque list lane = (0, slots.List list) ∷ (deque.0 + 2, slots.Lane lane) ∷ []

abbrev pub all_three : DequeId → ListSlot → PoolSlot → LaneSlot → List (ℕ × Slot)
all_three deque list pool lane = (1, slots.Pool pool) ∷ (0, slots.List list) ∷ (deque.0 + 2, slots.Lane lane) ∷ []
