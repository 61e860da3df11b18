-- What the slots show of a hall once some of them are written.
use Rattle.std.proofs.Common.{◌≡◌, ◌≤◌, List, [], ◌∷◌, map, length, set, refl, sym, ap, ◌∙◌, arith}
use Rattle.std.specs.Prelude.{slice_set}
use mathlib.Core.Option.{some, some-injective, some-ne-none}
use lib.ListN.{get_elem?}
use lib.Seq.{map-set}
use Rattle.atomic_table.proofs.Lists.{at_map}
use Rattle.turn_table.proofs.Hands.{read_at}
use Rattle.deque_list.specs.declared.deque_id.DequeId.{DequeId}
use Rattle.hall_machine.specs.Values.{Hall, of_lane, list_in, pool_in, lane_in, no_lane, lane_at}
use Rattle.hall_machine.specs.Writing.{lane_slot}
use Rattle.hall_slots.specs.declared.slot.Slot.{Slot}
use Rattle.hall_slots.specs.declared.slot.Slot.TheVariants as slots
use Rattle.hall_slots.specs.declared.list_slot.ListSlot.{ListSlot}
use Rattle.hall_slots.specs.declared.pool_slot.PoolSlot.{PoolSlot}
use Rattle.hall_slots.specs.declared.lane_slot.LaneSlot.{LaneSlot}
use Rattle.hall_slots.specs.Shown.{list_shown, pool_shown, lane_shown, value_of}
use Rattle.hall_slots.specs.Steps.{hall_shown}

-- a written slot is a written part of the hall
pub list_written : (shown : List Slot) (list : ListSlot) → 2 ≤ length shown → hall_shown (set shown 0 (slots.List list)) ≡ record (hall_shown shown) { list = list_shown list }
list_written [] list long = absurd (omega arith)
list_written (a ∷ []) list long = absurd (omega arith)
list_written (a ∷ b ∷ rest) list long = refl

pub pool_written : (shown : List Slot) (pool : PoolSlot) → 2 ≤ length shown → hall_shown (set shown 1 (slots.Pool pool)) ≡ record (hall_shown shown) { pool = pool_shown pool }
pool_written [] pool long = absurd (omega arith)
pool_written (a ∷ []) pool long = absurd (omega arith)
pool_written (a ∷ b ∷ rest) pool long = refl

pub lane_written : (shown : List Slot) (id : DequeId) (lane : LaneSlot) → 2 ≤ length shown
    → hall_shown (set shown (lane_slot id) (slots.Lane lane)) ≡ record (hall_shown shown) { lanes = slice_set (Hall.lanes (hall_shown shown)) id.0 (lane_shown lane) }
lane_written [] id lane long = absurd (omega arith)
lane_written (a ∷ []) id lane long = absurd (omega arith)
lane_written (a ∷ b ∷ rest) id lane long = ap (λ lanes. record (hall_shown (a ∷ b ∷ rest)) { lanes = lanes })
    (ap (map lane_in) (map-set value_of rest id.0 (slots.Lane lane)) ∙ map-set lane_in (map value_of rest) id.0 (of_lane (lane_shown lane)))

-- a slot is a part of the hall
pub list_at : (shown : List Slot) (list : ListSlot) → get_elem? shown 0 ≡ some (slots.List list) → Hall.list (hall_shown shown) ≡ list_shown list
list_at [] list at = absurd (some-ne-none (slots.List list) (sym at))
list_at (a ∷ []) list at = ap (λ (s : Slot). list_in (value_of s)) (some-injective a (slots.List list) at)
list_at (a ∷ b ∷ rest) list at = ap (λ (s : Slot). list_in (value_of s)) (some-injective a (slots.List list) at)

pub pool_at : (shown : List Slot) (pool : PoolSlot) → get_elem? shown 1 ≡ some (slots.Pool pool) → Hall.pool (hall_shown shown) ≡ pool_shown pool
pool_at [] pool at = absurd (some-ne-none (slots.Pool pool) (sym at))
pool_at (a ∷ []) pool at = absurd (some-ne-none (slots.Pool pool) (sym at))
pool_at (a ∷ b ∷ rest) pool at = ap (λ (s : Slot). pool_in (value_of s)) (some-injective b (slots.Pool pool) at)

pub lane_shown_at : (shown : List Slot) (id : DequeId) (lane : LaneSlot) → get_elem? shown (lane_slot id) ≡ some (slots.Lane lane) → lane_at (Hall.lanes (hall_shown shown)) id ≡ lane_shown lane
lane_shown_at [] id lane at = absurd (some-ne-none (slots.Lane lane) (sym at))
lane_shown_at (a ∷ []) id lane at = absurd (some-ne-none (slots.Lane lane) (sym at))
lane_shown_at (a ∷ b ∷ rest) id lane at = read_at (map lane_in (map value_of rest)) id.0 (lane_shown lane) no_lane
    (at_map lane_in (map value_of rest) id.0 (of_lane (lane_shown lane)) (at_map value_of rest id.0 (slots.Lane lane) at))
