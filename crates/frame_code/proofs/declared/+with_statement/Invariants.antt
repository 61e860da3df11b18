use Rattle.std.proofs.Common.{◌≡◌, drop}
use Rattle.par_tree.specs.View.{body_tree}
use Rattle.par_tree.specs.Names.{declared_in_body}
use Rattle.node_table.specs.Names.{with_names}
use Rattle.frame_code.specs.Scopes.{names_tree}
use Rattle.frame_code.proofs.declared.+with_statement.Given as goal

abbrev pub invariant-with_list-loop-stmt : goal.invariant-with_list-loop-stmt
invariant-with_list-loop-stmt l =
    with_names (names_tree l.names.items) (declared_in_body (body_tree (drop l.stmt-index l.body))) ≡ with_names (names_tree l.initial.names.items) (declared_in_body (body_tree l.body))
