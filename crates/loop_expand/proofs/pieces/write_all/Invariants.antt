use Rattle.std.proofs.Common.{◌≡◌, ◌++◌, drop}
use Rattle.std.specs.List.{flat_map}
use Rattle.loop_expand.specs.Gives.{piece_shown}
use Rattle.loop_expand.proofs.pieces.write_all.Given as goal

abbrev pub invariant-pieces : goal.invariant-pieces
invariant-pieces l = l.out.items ++ flat_map piece_shown (drop l.piece-index l.pieces) ≡ l.initial.out.items ++ flat_map piece_shown l.pieces
