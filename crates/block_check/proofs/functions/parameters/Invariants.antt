use Rattle.std.proofs.Common.{◌≡◌, drop}
use Rattle.par_tree.specs.View.{params_tree}
use Rattle.par_ownership.specs.Walk.{walk_params}
use Rattle.block_check.specs.Shown.{env_shown}
use Rattle.block_check.proofs.functions.parameters.Given as goal

abbrev pub invariant-loop-param : goal.invariant-loop-param
invariant-loop-param l =
    walk_params l.line (params_tree (drop l.param-index l.params)) (env_shown l.env) ≡ walk_params l.line (params_tree l.params) (env_shown l.initial.env)
