use Rattle.std.proofs.Common.{◌≡◌, ◌++◌, map, drop, vec_len, vec_capacity}
use Rattle.slot_store.specs.Rows.{without_block}
use Rattle.slot_store.specs.Shown.{row_shown}
use Rattle.slot_store.proofs.slots.Slots.copy_integers.Given as goal

-- the slots so far, with those that are still to come, and there is room for them
abbrev pub invariant-loop-slot : goal.invariant-loop-slot
invariant-loop-slot l =
    (row_shown l.slots.items ++ map without_block (row_shown (drop l.slot-index l.self.slots.items))
    ≡ map without_block (row_shown l.self.slots.items))
    × (vec_len l.slots ≡ l.slot-index)
    × (vec_capacity l.slots ≡ vec_len l.self.slots)
