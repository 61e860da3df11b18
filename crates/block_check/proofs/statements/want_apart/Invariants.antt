use Rattle.par_names.specs.Named.{body_of}
use Rattle.std.proofs.Common.{◌≡◌, drop}
use Rattle.par_ownership.specs.Walk.{branches_refusal}
use Rattle.block_check.specs.Shown.{entries_shown}
use Rattle.block_check.proofs.statements.want_apart.Given as goal

abbrev pub invariant-loop-entry : goal.invariant-loop-entry
invariant-loop-entry l =
    branches_refusal l.line (body_of l.left) (body_of l.right) (entries_shown (drop l.entry-index l.env)) ≡ branches_refusal l.line (body_of l.left) (body_of l.right) (entries_shown l.env)
