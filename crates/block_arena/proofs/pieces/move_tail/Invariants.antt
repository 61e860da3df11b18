use Rattle.std.proofs.Common.{◌≡◌, ◌+◌, ◌≤◌, ◌++◌, vec_len, vec_capacity}
use Rattle.std.specs.Vec.Iter.{drain_items, drain_len}
use Rattle.block_arena.proofs.pieces.move_tail.Given as goal

-- what was moved with what is still to come is what `to` had with all that is to come, and there is room
abbrev pub invariant-loop-piece : goal.invariant-loop-piece
invariant-loop-piece l =
    (goal.iterator-loop-piece).can_next l.piece-iterator
    × (goal.iterator-loop-piece).is_finite l.piece-iterator
    × (l.to.items ++ drain_items l.piece-iterator ≡ l.initial.to.items ++ drain_items l.initial.piece-iterator)
    × (vec_len l.to + drain_len l.piece-iterator ≤ vec_capacity l.to)
    × (vec_capacity l.to ≡ vec_capacity l.initial.to)
