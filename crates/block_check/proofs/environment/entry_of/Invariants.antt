use Rattle.std.proofs.Common.{◌≡◌, drop}
use Rattle.par_ownership.specs.Environment.{entry_of}
use Rattle.block_check.specs.Shown.{entries_shown}
use Rattle.block_check.proofs.environment.entry_of.Given as goal

abbrev pub invariant-loop-entry : goal.invariant-loop-entry
invariant-loop-entry l = entry_of (entries_shown (drop l.entry-index l.env)) l.name ≡ entry_of (entries_shown l.env) l.name
