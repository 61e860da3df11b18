use Rattle.std.proofs.Common.{◌≡◌, drop}
use Rattle.std.specs.List.{list_any}
use Rattle.par_tree.specs.View.{args_tree}
use Rattle.par_ownership.specs.Ownership.{passes}
use Rattle.block_check.proofs.calls.is_passed.Given as goal

abbrev pub invariant-loop-arg : goal.invariant-loop-arg
invariant-loop-arg l = list_any (passes l.name) (args_tree (drop l.arg-index l.before)) ≡ list_any (passes l.name) (args_tree l.before)
