use Rattle.std.proofs.Common.{◌≡◌, ◌+◌, length, drop}
use Rattle.par_tree.specs.View.{stmt_tree, body_tree}
use Rattle.par_names.specs.Rows.{rows_tree}
use Rattle.accepted_source.specs.Sizes.{body_size}
use Rattle.node_table.specs.Shown.{nodes_shown}
use Rattle.frame_code.specs.Scopes.{functions_of, names_of_scope}
use Rattle.frame_code.proofs.Tables.{Walked}
use Rattle.frame_code.proofs.Weights.{stmt_weight, nested_weight, list_weight}
use Rattle.frame_code.proofs.statements.+lower_statement.Given as goal

abbrev pub decreases-lower_statement : goal.decreases-lower_statement
decreases-lower_statement l = stmt_weight (stmt_tree l.kind.now)

abbrev pub decreases-lower_nested : goal.decreases-lower_nested
decreases-lower_nested l = nested_weight (rows_tree l.body.now)

abbrev pub decreases-lower_list : goal.decreases-lower_list
decreases-lower_list l = list_weight (body_tree l.body.now)

abbrev pub invariant-lower_list-loop-stmt : goal.invariant-lower_list-loop-stmt
invariant-lower_list-loop-stmt l =
    Walked (functions_of l.scope) (names_of_scope l.scope) (nodes_shown l.initial.nodes.items) (nodes_shown l.nodes.items) (body_tree l.body) (body_tree (drop l.stmt-index l.body)) l.numbers.items
    × (length (nodes_shown l.nodes.items) + body_size (body_tree (drop l.stmt-index l.body)) ≡ length (nodes_shown l.initial.nodes.items) + body_size (body_tree l.body))
