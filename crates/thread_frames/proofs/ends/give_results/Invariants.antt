use Rattle.std.proofs.Common.{◌≡◌, ◌≤◌}
use Rattle.std.specs.Vec.Iter.{into_iter_items}
use Rattle.block_arena.specs.Region.{with_given}
use Rattle.thread_frames.specs.Views.{all_brought}
use Rattle.thread_frames.proofs.ends.give_results.Given as goal

-- with what is still to be given back all is given back
abbrev pub invariant-loop-child : goal.invariant-loop-child
invariant-loop-child l =
    (goal.iterator-loop-child).can_next l.child-iterator
    × (goal.iterator-loop-child).is_finite l.child-iterator
    × (all_brought (into_iter_items l.child-iterator) ≤ l.pool.live)
    × (with_given l.pool (all_brought (into_iter_items l.child-iterator))
    ≡ with_given l.initial.pool (all_brought (into_iter_items l.initial.child-iterator)))
