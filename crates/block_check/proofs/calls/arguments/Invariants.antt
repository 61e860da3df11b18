use Rattle.std.proofs.Common.{◌≡◌, take, drop, []}
use Rattle.par_tree.specs.View.{params_tree, args_tree}
use Rattle.par_ownership.specs.Walk.{args_refusal}
use Rattle.block_check.specs.Shown.{entries_shown}
use Rattle.block_check.proofs.calls.arguments.Given as goal

abbrev pub invariant-loop-i : goal.invariant-loop-i
invariant-loop-i l =
    args_refusal l.line (entries_shown l.env) (args_tree (take l.i l.args)) (params_tree (drop l.i l.params)) (args_tree (drop l.i l.args))
    ≡ args_refusal l.line (entries_shown l.env) [] (params_tree l.params) (args_tree l.args)
