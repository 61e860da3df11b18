use Rattle.std.proofs.Common.{◌≡◌, drop}
use Rattle.par_ownership.specs.Walk.{arms_refusal}
use Rattle.block_check.specs.Shown.{entries_shown}
use Rattle.block_check.proofs.changes.same_held.Given as goal

abbrev pub invariant-loop-i : goal.invariant-loop-i
invariant-loop-i l =
    arms_refusal l.line (entries_shown (drop l.i l.env)) (entries_shown (drop l.i l.other)) ≡ arms_refusal l.line (entries_shown l.env) (entries_shown l.other)
