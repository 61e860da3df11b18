use Rattle.std.proofs.Common.{arith, ap, ◌∙◌}
use Rattle.block_arena.specs.Pieces.{contents}
use Rattle.block_arena.specs.declared.piece.Piece.{Piece}
use Rattle.block_arena.proofs.Contents.{zeros-pushed}
use Rattle.block_arena.proofs.pieces.new_pieces.Goals as goal

pub loop-preserved : goal.loop-preserved
loop-preserved c =
    let clear = ap (λ (p : Piece). p.words) c.in_ok-new.ensures.ok ∙ c.new.ensures in (
      omega (arith, c.push_reserved.ensures.len, c.loop.invariant.0),
      c.push_reserved.ensures.capacity ∙ c.loop.invariant.1,
      ap contents c.push_reserved.ensures.items
          ∙ zeros-pushed c.loop.pieces.items c.loop.counter c.in_ok-new.field-0 c.loop.invariant.2 clear,
    )
