use Rattle.std.proofs.Common.{◌≡◌, drop}
use Rattle.par_tree.specs.View.{args_tree}
use Rattle.par_ownership.specs.Environment.{after_gives}
use Rattle.block_check.specs.Shown.{entries_shown}
use Rattle.block_check.proofs.statements.give_all.Given as goal

abbrev pub invariant-loop-arg : goal.invariant-loop-arg
invariant-loop-arg l = after_gives (entries_shown l.env) (args_tree (drop l.arg-index l.args)) ≡ after_gives (entries_shown l.initial.env) (args_tree l.args)
