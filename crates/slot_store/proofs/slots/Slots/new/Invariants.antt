use Rattle.std.proofs.Common.{◌≡◌, ◌≤◌, replicate, vec_len, vec_capacity}
use Rattle.slot_store.specs.Rows.{blank}
use Rattle.slot_store.specs.Shown.{row_shown}
use Rattle.slot_store.proofs.slots.Slots.new.Given as goal

-- so many slots have nothing, and there is room for the others
abbrev pub invariant-loop : goal.invariant-loop
invariant-loop l =
    (row_shown l.slots.items ≡ replicate l.counter blank) × (vec_len l.slots ≡ l.counter) × (l.count ≤ vec_capacity l.slots)
