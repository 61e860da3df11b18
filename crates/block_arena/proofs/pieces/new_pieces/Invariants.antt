use Rattle.std.proofs.Common.{◌≡◌, ◌*◌, pos, replicate, vec_len, vec_capacity}
use Rattle.block_arena.specs.Pieces.{contents}
use Rattle.block_arena.proofs.pieces.new_pieces.Given as goal

-- as many pieces as rounds, all of zeros, and room for all
abbrev pub invariant-loop : goal.invariant-loop
invariant-loop l =
    (vec_len l.pieces ≡ l.counter) × (vec_capacity l.pieces ≡ l.count)
    × (contents l.pieces.items ≡ replicate (16 * l.counter) (pos 0))
