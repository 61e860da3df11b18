use Rattle.std.proofs.Common.{◌<◌, length, arith}
use Rattle.block_arena.proofs.Contents.{zeros-more}
use Rattle.block_arena.proofs.pieces.clear_all.Goals as goal

pub loop-piece-preserved : goal.loop-piece-preserved
loop-piece-preserved c =
    let within : c.loop-piece.piece-index < length c.loop-piece.piece-items = omega arith in
    zeros-more c.loop-piece.piece-items c.loop-piece.piece-index _ within c.loop-piece.invariant c.clear.ensures
