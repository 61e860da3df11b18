use Rattle.std.proofs.Common.{◌≡◌, ℕ, length}
use Rattle.slot_store.specs.Rows.{entry_at, blocks_at}
use Rattle.slot_store.specs.Shown.{slots_shown}
use Rattle.slot_store.proofs.Parting.{joined_first, left_first}
use Rattle.slot_store.proofs.slots.Slots.take_blocks.Given as goal

-- the blocks of the slots so far have come, and the child has the others
abbrev pub invariant-loop-slot : goal.invariant-loop-slot
invariant-loop-slot l =
    (length (slots_shown l.self) ≡ length (slots_shown l.initial.self))
    × (length (slots_shown l.child) ≡ length (slots_shown l.initial.child))
    × ((s : ℕ) → entry_at (slots_shown l.self) s ≡ joined_first (slots_shown l.initial.self) (slots_shown l.initial.child) l.slot s)
    × ((s : ℕ) → blocks_at (slots_shown l.child) s ≡ left_first (slots_shown l.initial.child) l.slot s)
