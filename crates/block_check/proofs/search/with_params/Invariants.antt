use Rattle.std.proofs.Common.{◌≡◌, drop}
use Rattle.par_tree.specs.View.{params_tree}
use Rattle.block_check.specs.Shown.{env_shown}
use Rattle.block_check.specs.Forks.{with_params}
use Rattle.block_check.proofs.search.with_params.Given as goal

abbrev pub invariant-loop-param : goal.invariant-loop-param
invariant-loop-param l = with_params (env_shown l.names) l.line (params_tree (drop l.param-index l.params)) ≡ with_params (env_shown l.initial.names) l.line (params_tree l.params)
