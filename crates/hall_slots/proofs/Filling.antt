-- The first three slots and the empty lanes are the first slots.
use Rattle.std.proofs.Common.{◌≡◌, ℕ, ◌+◌, ◌-◌, ◌≤◌, List, ◌∷◌, ◌++◌, length, ap, ◌∙◌, arith}
use Rattle.block_arena.specs.Region.{Region}
use Rattle.deque_list.specs.Lanes.{LaneView}
use Rattle.deque_list.specs.Orders.{OrderView}
use Rattle.thread_frames.specs.declared.thread.Thread.{Thread}
use Rattle.hall_slots.specs.declared.list_slot.ListSlot.{ListSlot}
use Rattle.hall_slots.specs.declared.slot.Slot.{Slot}
use Rattle.hall_slots.specs.First.{IsFirstList, AddsEmptyLanes, AreThree, AreFirst}

pub first_of : (order : OrderView) (lane : LaneView Thread) (pool : Region) (deques : ℕ) (list : ListSlot) (three all : List Slot) → 1 ≤ deques → IsFirstList order list
    → AreThree list lane pool three → AddsEmptyLanes three (deques - 1) all → AreFirst order lane pool deques all
first_of order lane pool deques list three all some is_list are adds = record {
  list = list;
  words = are.words;
  first = are.first;
  others = adds.lanes;
  are = adds.after_is ∙ ap (λ (xs : List Slot). xs ++ adds.lanes) are.are;
  is_list = is_list;
  same_pool = are.same_pool;
  no_moves = are.no_moves;
  same_lane = are.same_lane;
  no_period = are.no_period;
  as_many = let n = adds.as_many in omega (arith, n, some);
  are_empty = adds.are_empty;
}
