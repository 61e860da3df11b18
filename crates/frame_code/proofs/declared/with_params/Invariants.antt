use Rattle.std.proofs.Common.{◌≡◌, drop}
use Rattle.par_tree.specs.View.{params_tree}
use Rattle.par_tree.specs.Names.{param_names}
use Rattle.node_table.specs.Names.{with_names}
use Rattle.frame_code.specs.Scopes.{names_tree}
use Rattle.frame_code.proofs.declared.with_params.Given as goal

abbrev pub invariant-loop-param : goal.invariant-loop-param
invariant-loop-param l =
    with_names (names_tree l.names.items) (param_names (params_tree (drop l.param-index l.params))) ≡ with_names (names_tree l.initial.names.items) (param_names (params_tree l.params))
