use Rattle.std.proofs.Common.{◌≡◌, ℕ, ◌<◌, ◌≤◌, true, false, take, slice_index_or, vec_len, vec_capacity}
use Rattle.core.specs.Mem.Slots.{slots_items, slots_filled, slots_len}
use Rattle.turn_table.specs.Values.{present}
use Rattle.turn_table.proofs.turns.values.empty.Given as goal

abbrev pub invariant-loop-i : goal.invariant-loop-i
invariant-loop-i g l = (l.values.items ≡ present (take l.i (slots_items l.initial.closed.slots))) × (vec_len l.values ≤ l.i) × (vec_capacity l.values ≡ vec_capacity l.initial.values)
    × (slots_items l.closed.slots ≡ slots_items l.initial.closed.slots) × (slots_len l.closed.slots ≡ slots_len l.initial.closed.slots)
    × ((k : ℕ) → l.i ≤ k → k < slots_len l.closed.slots → slice_index_or (slots_filled l.closed.slots) k false ≡ true)
    × ((k : ℕ) → k < l.i → slice_index_or (slots_filled l.closed.slots) k false ≡ false)
