use Rattle.std.proofs.Common.{ℕ, ◌+◌, ◌<◌, ◌≤◌, length}
use Rattle.slot_store.specs.Rows.{blocks_at}
use Rattle.slot_store.specs.Shown.{slots_shown}
use Rattle.slot_store.proofs.slots.Slots.is_apart.Given as goal

-- the slots so far have no block in both rows
abbrev pub invariant-loop-slot : goal.invariant-loop-slot
invariant-loop-slot l =
    (s : ℕ) → s < l.slot → length (blocks_at (slots_shown l.self) s) + length (blocks_at (slots_shown l.child) s) ≤ 1
