use Rattle.std.proofs.Common.{◌≡◌, ◌++◌, IfOk, subst, ap, sym, ◌∙◌}
use Rattle.par_tree.specs.Tree.{Body}
use Rattle.par_tree.specs.View.{expr_tree, stmt_tree, body_tree}
use Rattle.par_tree.specs.Names.{expr_names, stmt_names, body_names}
use Rattle.par_names.specs.Rows.{rows_tree}
use Rattle.par_names.specs.Sets.{names_behind}
use Rattle.par_names.proofs.Rows.{body_is}
use Rattle.par_names.proofs.Listed.{if_ok, three_listed}
use Rattle.par_names.proofs.mentioned.+add_statement.Goals as goal

pub add_owned-returns : goal.add_owned-returns
add_owned-returns t c =
    let same = ap body_tree c.deref.ensures.value ∙ sym (body_is c.args.body.now) in
    subst (λ (b : Body). IfOk c.add_names.result (λ _. names_behind c.add_names.new.out.items ≡ names_behind c.args.out.now.items ++ body_names b)) same c.add_names.ensures

pub add_statement-returns-in_ok-add_owned-in-If : goal.add_statement-returns-in_ok-add_owned-in-If
add_statement-returns-in_ok-add_owned-in-If t c =
    if_ok c.add_owned-in-If.result
    (three_listed (names_behind c.args.out.now.items) (names_behind c.add_expression.new.out.items) (names_behind c.add_owned.new.out.items) (names_behind c.add_owned-in-If.new.out.items) (expr_names (expr_tree c.in-If.cond)) (body_names (rows_tree c.in-If.then)) (body_names (rows_tree c.in-If.other)) (stmt_names (stmt_tree c.args.kind.now))
    (ap (λ k. stmt_names (stmt_tree k)) c.in-If.is) c.in_ok-add_expression-in-If.ensures c.in_ok-add_owned-in-If.ensures)
    c.add_owned-in-If.ensures
