use Rattle.std.proofs.Common.{◌≡◌, ◌≤◌}
use Rattle.std.specs.Vec.Iter.{into_iter_items}
use Rattle.block_arena.specs.Region.{with_given}
use Rattle.slot_store.specs.Rows.{row_words}
use Rattle.slot_store.specs.Shown.{row_shown}
use Rattle.slot_store.proofs.slots.Slots.give_all.Given as goal

-- with what is still to be given back all is given back
abbrev pub invariant-loop-slot : goal.invariant-loop-slot
invariant-loop-slot l =
    (goal.iterator-loop-slot).can_next l.slot-iterator
    × (goal.iterator-loop-slot).is_finite l.slot-iterator
    × (row_words (row_shown (into_iter_items l.slot-iterator)) ≤ l.pool.live)
    × (with_given l.pool (row_words (row_shown (into_iter_items l.slot-iterator)))
    ≡ with_given l.initial.pool (row_words (row_shown (into_iter_items l.initial.slot-iterator))))
