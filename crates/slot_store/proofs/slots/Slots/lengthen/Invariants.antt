use Rattle.std.proofs.Common.{◌≡◌, ◌+◌, ◌++◌, ◌≤◌, replicate, vec_len, vec_capacity}
use Rattle.slot_store.specs.Rows.{blank}
use Rattle.slot_store.specs.Shown.{row_shown}
use Rattle.slot_store.proofs.slots.Slots.lengthen.Given as goal

-- so many slots have come, and there is room for the others
abbrev pub invariant-loop : goal.invariant-loop
invariant-loop l =
    (row_shown l.self.slots.items ≡ row_shown l.fn.self.slots.items ++ replicate l.counter blank)
    × (vec_len l.self.slots ≡ vec_len l.fn.self.slots + l.counter)
    × (vec_len l.fn.self.slots + l.more ≤ vec_capacity l.self.slots)
