use Rattle.std.proofs.Common.{◌≡◌, ℕ, length, take}
use Rattle.slot_store.specs.Rows.{entry_at}
use Rattle.slot_store.specs.Shown.{slots_shown}
use Rattle.slot_store.specs.Forks.{with_integers_of}
use Rattle.slot_store.proofs.slots.Slots.take_integers.Given as goal

-- the integers of the slots so far are the child's
abbrev pub invariant-loop-slot : goal.invariant-loop-slot
invariant-loop-slot l =
    (length (slots_shown l.self) ≡ length (slots_shown l.initial.self))
    × ((s : ℕ) → entry_at (slots_shown l.self) s
    ≡ with_integers_of (slots_shown l.initial.self) (slots_shown l.child) (take l.slot-index l.assigned) s)
