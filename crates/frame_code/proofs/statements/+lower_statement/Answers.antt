use Rattle.std.proofs.Common.{◌≡◌, ◌+◌, ◌<◌, ◌≤◌, ◌∙◌, ◌∷◌, [], length, length-append, length-set, drop, rules, arith, sym, ap, subst, IfOk}
use Rattle.std.proofs.lemmas.List.{drop_all, length-map, map-append, map-set}
use Rattle.par_tree.specs.Tree.{Body}
use Rattle.par_tree.specs.View.{expr_tree, stmt_tree, body_tree}
use Rattle.par_names.specs.Rows.{rows_tree}
use Rattle.accepted_source.specs.Sizes.{stmt_size, body_size}
use Rattle.node_table.specs.Programs.{IsBody}
use Rattle.node_table.specs.Shown.{expr_shown, kind_shown, node_shown, nodes_shown}
use Rattle.node_table.proofs.Lists.{at_item}
use Rattle.frame_code.specs.Growing.{Grown}
use Rattle.frame_code.specs.Scopes.{functions_of, names_of_scope}
use Rattle.frame_code.specs.Slotted.{HasStmt, HasBody, most_nodes}
use Rattle.frame_code.proofs.Having.{stmt_has}
use Rattle.frame_code.proofs.Weights.{stmt_weight, nested_weight, list_weight, item_size, rest_size}
use Rattle.frame_code.proofs.Rows.{body_is}
use Rattle.frame_code.proofs.Tables.{Walked, walked_next, walked_end, if_made, both_made}
use Rattle.frame_code.proofs.statements.+lower_statement.Goals as goal

pub lower_list-loop-stmt-preserved : goal.lower_list-loop-stmt-preserved
lower_list-loop-stmt-preserved t c =
    let functions = functions_of c.args.scope.now in
    let names = names_of_scope c.args.scope.now in
    let start = nodes_shown c.args.nodes.items in
    let before = c.loop-stmt.nodes.items in
    let now = nodes_shown before in
    let begun = nodes_shown c.in_ok-started.started.items in
    let inner = c.in_ok-made.made.items in
    let made = nodes_shown inner in
    let new = nodes_shown c.placed-nodes.result.items in
    let body = c.args.body.now in
    let i = c.loop-stmt.stmt-index in
    let item = c.stmt-item.result in
    let s = stmt_tree item.kind in
    let kind = c.in_ok-made.kind in
    let n = c.next_number-number.result in
    let kept_place = c.in_ok-started.ensures.0 in
    let started = ap nodes_shown c.in_ok-started.ensures.1 ∙ map-append node_shown before (kept_place ∷ []) in
    let written = ap nodes_shown c.placed-nodes.ensures ∙ map-set node_shown inner n (record { line = item.line; kind = kind }) in
    let number : n ≡ length now = c.next_number-number.ensures ∙ ap length c.deref.ensures.value ∙ sym (length-map before node_shown) in
    let count : length begun ≡ length now + 1 = ap length started ∙ length-append now (node_shown kept_place ∷ []) in
    let size = item_size body i item c.loop-stmt-test.true c.stmt-item.is in
    let kept = c.loop-stmt.invariant.1 in
    let inside = c.in_ok-made.ensures.count in
    let placed : length new ≡ length made = ap length written ∙ length-set made n (record { line = item.line; kind = kind_shown kind }) in (
      walked_next functions names start now begun made new (body_tree body) (body_tree (drop (i + 1) body)) c.loop-stmt.numbers.items c.push.new.self.items item.line n s (kind_shown kind) (node_shown kept_place)
          (at_item (λ b. Walked functions names start now (body_tree body) (body_tree b) c.loop-stmt.numbers.items) body i item c.loop-stmt-test.true c.stmt-item.is c.loop-stmt.invariant.0)
          number
          started
          c.in_ok-made.ensures.table.0
          c.in_ok-made.ensures.table.1
          written
          c.in_ok-push.ensures.items,
      omega (arith, count, size, kept, inside, placed),
    )

pub lower_list-returns-clause-table : goal.lower_list-returns-clause-table
lower_list-returns-clause-table t c =
    let functions = functions_of c.args.scope.now in
    let names = names_of_scope c.args.scope.now in
    let start = nodes_shown c.args.nodes.items in
    let now = nodes_shown c.loop-stmt.nodes.items in
    let body = c.args.body.now in
    walked_end functions names start now (body_tree body) c.loop-stmt.numbers.items
    (subst (λ b. Walked functions names start now (body_tree body) (body_tree b) c.loop-stmt.numbers.items) (drop_all c.loop-stmt.stmt-index body c.loop-stmt-test.false) c.loop-stmt.invariant.0)

pub lower_nested-returns-clause-table : goal.lower_nested-returns-clause-table
lower_nested-returns-clause-table t c =
    let functions = functions_of c.args.scope.now in
    let names = names_of_scope c.args.scope.now in
    let start = nodes_shown c.args.nodes.items in
    let same = ap body_tree c.deref.ensures.value ∙ sym (body_is c.args.body.now) in
    subst (λ (b : Body). IfOk c.lower_list.result (λ r. Grown start (nodes_shown r.0.items) × IsBody (nodes_shown r.0.items) functions names b (length start) r.1.items)) same c.lower_list.ensures.table

pub lower_statement-returns-in_ok-nodes-in-If-2-clause-table : goal.lower_statement-returns-in_ok-nodes-in-If-2-clause-table
lower_statement-returns-in_ok-nodes-in-If-2-clause-table t c =
    if_made (functions_of c.args.scope.now) (names_of_scope c.args.scope.now) (nodes_shown c.args.nodes.items) (nodes_shown c.in_ok-nodes-in-If.nodes.items) (nodes_shown c.in_ok-nodes-in-If-2.nodes.items) (stmt_tree c.args.kind.now) (expr_tree c.in-If.cond) (rows_tree c.in-If.then) (rows_tree c.in-If.other) (expr_shown c.in_ok-cond-in-If.cond) c.in_ok-nodes-in-If.then.items c.in_ok-nodes-in-If-2.other.items (ap stmt_tree c.in-If.is) c.in_ok-cond-in-If.ensures c.in_ok-nodes-in-If.ensures.table c.in_ok-nodes-in-If-2.ensures.table

pub lower_statement-returns-in_ok-nodes-in-Par-2-clause-table : goal.lower_statement-returns-in_ok-nodes-in-Par-2-clause-table
lower_statement-returns-in_ok-nodes-in-Par-2-clause-table t c =
    both_made (functions_of c.args.scope.now) (names_of_scope c.args.scope.now) (nodes_shown c.args.nodes.items) (nodes_shown c.in_ok-nodes-in-Par.nodes.items) (nodes_shown c.in_ok-nodes-in-Par-2.nodes.items) (stmt_tree c.args.kind.now) (rows_tree c.in-Par.left) (rows_tree c.in-Par.right) c.in_ok-sets-in-Par.sets c.in_ok-nodes-in-Par.left.items c.in_ok-nodes-in-Par-2.right.items (ap stmt_tree c.in-Par.is) c.in_ok-sets-in-Par.ensures c.in_ok-nodes-in-Par.ensures.table c.in_ok-nodes-in-Par-2.ensures.table

pub lower_list-next_number-number-requires : goal.lower_list-next_number-number-requires
lower_list-next_number-number-requires t c =
    let same = ap length c.deref.ensures.value in
    let shown = length-map c.loop-stmt.nodes.items node_shown in
    let kept = c.loop-stmt.invariant.1 in
    let room = c.requires.1 in
    omega (arith, same, shown, kept, room)

pub lower_list-placed-nodes-requires : goal.lower_list-placed-nodes-requires
lower_list-placed-nodes-requires t c =
    let before = c.loop-stmt.nodes.items in
    let number = c.next_number-number.ensures ∙ ap length c.deref.ensures.value in
    let begun : length c.in_ok-started.started.items ≡ length before + 1 = ap length c.in_ok-started.ensures.1 ∙ length-append before (c.in_ok-started.ensures.0 ∷ []) in
    let one = length-map c.in_ok-started.started.items node_shown in
    let two = length-map c.in_ok-made.made.items node_shown in
    let longer = c.in_ok-made.ensures.table.0.longer in
    omega (arith, number, begun, one, two, longer)

pub lower_list-lower_statement-requires : goal.lower_list-lower_statement-requires
lower_list-lower_statement-requires t c =
    let body = c.args.body.now in
    let i = c.loop-stmt.stmt-index in
    let item = c.stmt-item.result in
    let s = stmt_tree item.kind in
    let before = c.loop-stmt.nodes.items in
    let now = nodes_shown before in
    let begun = nodes_shown c.in_ok-started.started.items in
    let kept_place = c.in_ok-started.ensures.0 in
    let has = stmt_has (functions_of c.args.scope.now) (names_of_scope c.args.scope.now) body i item c.loop-stmt-test.true c.stmt-item.is c.requires.0 in
    let count : length begun ≡ length now + 1 = ap length (ap nodes_shown c.in_ok-started.ensures.1 ∙ map-append node_shown before (kept_place ∷ [])) ∙ length-append now (node_shown kept_place ∷ []) in
    let size = item_size body i item c.loop-stmt-test.true c.stmt-item.is in
    let rest = rest_size i body in
    let kept = c.loop-stmt.invariant.1 in
    let room = c.requires.1 in
    let fits : length begun + stmt_size s ≤ most_nodes + 1 = omega (arith, count, size, kept, room) in
    let smaller : stmt_weight s < list_weight (body_tree body) = omega (arith, size, rest) in
    search rules

pub lower_list-returns-clause-count : goal.lower_list-returns-clause-count
lower_list-returns-clause-count t c =
    let none = ap (λ xs. body_size (body_tree xs)) (drop_all c.loop-stmt.stmt-index c.args.body.now c.loop-stmt-test.false) in
    let kept = c.loop-stmt.invariant.1 in
    omega (arith, none, kept)

pub lower_nested-lower_list-requires : goal.lower_nested-lower_list-requires
lower_nested-lower_list-requires t c =
    let same = ap body_tree c.deref.ensures.value ∙ sym (body_is c.args.body.now) in
    let has : HasBody (functions_of c.args.scope.now) (names_of_scope c.args.scope.now) (body_tree c.deref.result.now) = subst (λ b. HasBody (functions_of c.args.scope.now) (names_of_scope c.args.scope.now) b) (sym same) c.requires.0 in
    let size = ap (λ b. body_size b) same in
    let room = c.requires.1 in
    let fits : length (nodes_shown c.args.nodes.items) + body_size (body_tree c.deref.result.now) ≤ most_nodes = omega (arith, size, room) in
    let smaller : list_weight (body_tree c.deref.result.now) < nested_weight (rows_tree c.args.body.now) = omega (arith, size) in
    search rules

pub lower_nested-returns-clause-count : goal.lower_nested-returns-clause-count
lower_nested-returns-clause-count t c =
    let same = ap body_tree c.deref.ensures.value ∙ sym (body_is c.args.body.now) in
    subst (λ (b : Body). IfOk c.lower_list.result (λ r. length (nodes_shown r.0.items) ≡ length (nodes_shown c.args.nodes.items) + body_size b)) same c.lower_list.ensures.count

pub lower_statement-lower_nested-requires-in-Split : goal.lower_statement-lower_nested-requires-in-Split
lower_statement-lower_nested-requires-in-Split t c =
    let functions = functions_of c.args.scope.now in
    let names = names_of_scope c.args.scope.now in
    let has : HasBody functions names (rows_tree c.in-Split.body) = (subst (λ k. HasStmt functions names (stmt_tree k)) c.in-Split.is c.requires.0).4 in
    let size = ap (λ k. stmt_size (stmt_tree k)) c.in-Split.is in
    let room = c.requires.1 in
    let fits : length (nodes_shown c.args.nodes.items) + body_size (rows_tree c.in-Split.body) ≤ most_nodes = omega (arith, size, room) in
    let smaller : nested_weight (rows_tree c.in-Split.body) < stmt_weight (stmt_tree c.args.kind.now) = omega (arith, size) in
    search rules

pub lower_statement-lower_nested-requires : goal.lower_statement-lower_nested-requires
lower_statement-lower_nested-requires t c =
    let functions = functions_of c.args.scope.now in
    let names = names_of_scope c.args.scope.now in
    let has : HasBody functions names (rows_tree c.in-If.then) = (subst (λ k. HasStmt functions names (stmt_tree k)) c.in-If.is c.requires.0).1 in
    let size = ap (λ k. stmt_size (stmt_tree k)) c.in-If.is in
    let room = c.requires.1 in
    let fits : length (nodes_shown c.args.nodes.items) + body_size (rows_tree c.in-If.then) ≤ most_nodes = omega (arith, size, room) in
    let smaller : nested_weight (rows_tree c.in-If.then) < stmt_weight (stmt_tree c.args.kind.now) = omega (arith, size) in
    search rules

pub lower_statement-lower_nested-requires-in-If : goal.lower_statement-lower_nested-requires-in-If
lower_statement-lower_nested-requires-in-If t c =
    let functions = functions_of c.args.scope.now in
    let names = names_of_scope c.args.scope.now in
    let has : HasBody functions names (rows_tree c.in-If.other) = (subst (λ k. HasStmt functions names (stmt_tree k)) c.in-If.is c.requires.0).2 in
    let size = ap (λ k. stmt_size (stmt_tree k)) c.in-If.is in
    let room = c.requires.1 in
    let count = c.in_ok-nodes-in-If.ensures.count in
    let fits : length (nodes_shown c.in_ok-nodes-in-If.nodes.items) + body_size (rows_tree c.in-If.other) ≤ most_nodes = omega (arith, size, room, count) in
    let smaller : nested_weight (rows_tree c.in-If.other) < stmt_weight (stmt_tree c.args.kind.now) = omega (arith, size) in
    search rules
