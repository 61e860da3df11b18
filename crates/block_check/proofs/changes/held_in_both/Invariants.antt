use Rattle.std.proofs.Common.{◌≡◌, ◌++◌, drop}
use Rattle.par_ownership.specs.Environment.{held_in_both}
use Rattle.block_check.specs.Shown.{entries_shown}
use Rattle.block_check.proofs.changes.held_in_both.Given as goal

abbrev pub invariant-loop-i : goal.invariant-loop-i
invariant-loop-i l =
    entries_shown l.both.items ++ held_in_both (entries_shown (drop l.i l.left)) (entries_shown (drop l.i l.right)) ≡ held_in_both (entries_shown l.left) (entries_shown l.right)
