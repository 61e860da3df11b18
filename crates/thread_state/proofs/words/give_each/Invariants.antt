use Rattle.std.proofs.Common.{◌≡◌, ◌≤◌, map}
use Rattle.std.specs.Vec.Iter.{into_iter_items}
use Rattle.block_arena.specs.Region.{with_given}
use Rattle.slot_store.specs.Shown.{slots_shown}
use Rattle.thread_state.specs.Rows.{all_words}
use Rattle.thread_state.proofs.words.give_each.Given as goal

-- with what is still to be given back all is given back
abbrev pub invariant-loop-row : goal.invariant-loop-row
invariant-loop-row l =
    (goal.iterator-loop-row).can_next l.row-iterator
    × (goal.iterator-loop-row).is_finite l.row-iterator
    × (all_words (map slots_shown (into_iter_items l.row-iterator)) ≤ l.pool.live)
    × (with_given l.pool (all_words (map slots_shown (into_iter_items l.row-iterator)))
    ≡ with_given l.initial.pool (all_words (map slots_shown (into_iter_items l.initial.row-iterator))))
