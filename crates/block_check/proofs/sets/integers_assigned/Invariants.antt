use Rattle.std.proofs.Common.{◌≡◌, ◌++◌, drop}
use Rattle.par_names.specs.Named.{body_of}
use Rattle.block_check.specs.Shown.{entries_shown}
use Rattle.block_check.specs.Forks.{names_of, assigns_integer, names_shown}
use Rattle.block_check.proofs.sets.integers_assigned.Given as goal

abbrev pub invariant-loop-entry : goal.invariant-loop-entry
invariant-loop-entry l =
    names_shown l.found ++ names_of (assigns_integer (body_of l.branch)) (entries_shown (drop l.entry-index l.names)) ≡ names_of (assigns_integer (body_of l.branch)) (entries_shown l.names)
