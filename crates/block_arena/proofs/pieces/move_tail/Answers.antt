use Rattle.std.proofs.Common.{arith}
use Rattle.block_arena.proofs.pieces.move_tail.Goals as goal

pub push_reserved-requires : goal.push_reserved-requires
push_reserved-requires c = omega (arith, c.in-Some.ensures.steps.1)
