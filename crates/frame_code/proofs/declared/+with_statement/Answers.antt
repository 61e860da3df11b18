use Rattle.std.proofs.Common.{◌≡◌, ◌+◌, ◌∙◌, drop, sym, ap, subst, IfOk}
use Rattle.par_tree.specs.Tree.{Body}
use Rattle.par_tree.specs.View.{stmt_tree, body_tree}
use Rattle.par_names.specs.Rows.{rows_tree}
use Rattle.par_tree.specs.Names.{declared_in_stmt, declared_in_body}
use Rattle.node_table.specs.Names.{with_names}
use Rattle.frame_code.specs.Scopes.{names_tree}
use Rattle.node_table.proofs.Lists.{drop_item}
use Rattle.frame_code.proofs.Rows.{body_is}
use Rattle.frame_code.proofs.Naming.{with_names_append, with_part}
use Rattle.frame_code.proofs.declared.+with_statement.Goals as goal

pub with_list-loop-stmt-preserved : goal.with_list-loop-stmt-preserved
with_list-loop-stmt-preserved t c =
    let ns = names_tree c.loop-stmt.names.items in
    let body = c.args.body.now in
    let i = c.loop-stmt.stmt-index in
    let item = c.stmt-item.result in
    let ds = declared_in_stmt (stmt_tree item.kind) in
    let rest = declared_in_body (body_tree (drop (i + 1) body)) in
    ap (λ v. with_names v rest) c.in_ok-names.ensures
    ∙ sym (with_names_append ns ds rest)
    ∙ ap (λ b. with_names ns (declared_in_body (body_tree b))) (sym (drop_item body i item c.loop-stmt-test.true c.stmt-item.is))
    ∙ c.loop-stmt.invariant

pub with_nested-returns : goal.with_nested-returns
with_nested-returns t c =
    let same = ap body_tree c.deref.ensures.value ∙ sym (body_is c.args.body.now) in
    subst (λ (b : Body). IfOk c.with_list.result (λ v. names_tree v.items ≡ with_names (names_tree c.args.names.items) (declared_in_body b))) same c.with_list.ensures

pub with_statement-returns-in_ok-names-in-If : goal.with_statement-returns-in_ok-names-in-If
with_statement-returns-in_ok-names-in-If t c =
    with_part (names_tree c.args.names.items) (names_tree c.in_ok-names-in-If.names.items) (declared_in_body (rows_tree c.in-If.then)) (declared_in_body (rows_tree c.in-If.other)) (declared_in_stmt (stmt_tree c.args.kind.now)) c.with_nested-in-If.result c.in_ok-names-in-If.ensures (ap (λ k. declared_in_stmt (stmt_tree k)) c.in-If.is) c.with_nested-in-If.ensures

pub with_statement-returns-in_ok-names-in-Par : goal.with_statement-returns-in_ok-names-in-Par
with_statement-returns-in_ok-names-in-Par t c =
    with_part (names_tree c.args.names.items) (names_tree c.in_ok-names-in-Par.names.items) (declared_in_body (rows_tree c.in-Par.left)) (declared_in_body (rows_tree c.in-Par.right)) (declared_in_stmt (stmt_tree c.args.kind.now)) c.with_nested-in-Par-2.result c.in_ok-names-in-Par.ensures (ap (λ k. declared_in_stmt (stmt_tree k)) c.in-Par.is) c.with_nested-in-Par-2.ensures
