use Rattle.std.proofs.Common.{◌≡◌, ◌*◌, take, replicate, pos}
use Rattle.block_arena.specs.Pieces.{contents}
use Rattle.block_arena.proofs.pieces.clear_all.Given as goal

-- the pieces passed are zeros
abbrev pub invariant-loop-piece : goal.invariant-loop-piece
invariant-loop-piece l = contents (take l.piece-index l.piece-items) ≡ replicate (16 * l.piece-index) (pos 0)
