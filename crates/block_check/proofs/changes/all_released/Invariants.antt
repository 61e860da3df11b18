use Rattle.std.proofs.Common.{◌≡◌, drop}
use Rattle.par_ownership.specs.Walk.{end_refusal}
use Rattle.block_check.specs.Shown.{entries_shown}
use Rattle.block_check.proofs.changes.all_released.Given as goal

abbrev pub invariant-loop-i : goal.invariant-loop-i
invariant-loop-i l = end_refusal (entries_shown (drop l.i l.env)) ≡ end_refusal (drop l.visible (entries_shown l.env))
