use Rattle.std.proofs.Common.{◌||◌, refl, sym, ap, ◌∙◌}
use Rattle.std.specs.Str.{bytes_eq}
use Rattle.par_tree.specs.View.{name_tree, expr_tree, stmt_tree, body_tree}
use Rattle.par_tree.proofs.Lists.{stmt_tree-if, stmt_tree-while, stmt_tree-par, stmt_tree-split}
use Rattle.par_tree.specs.Names.{names_in_expr, names_in_stmt, names_in_body}
use Rattle.par_names.proofs.Tests.{or_then, or_else}
use Rattle.par_names.proofs.mentions.+names_in_statement.Goals as goal

pub names_in_statement-returns-then-names_in : goal.names_in_statement-returns-then-names_in
names_in_statement-returns-then-names_in t c =
    let x = c.args.name.now in
    let a = names_in_expr x (expr_tree c.in-If.cond) in
    let b = names_in_body x (body_tree c.in-If.then.items) in
    let d = names_in_body x (body_tree c.in-If.other.items) in
    let whole = ap (names_in_stmt x) (ap stmt_tree c.in-If.is ∙ stmt_tree-if c.in-If.cond c.in-If.then c.in-If.other) in
    or_else a (b || d) whole (sym c.names_in_expression-in-If.ensures ∙ c.if-names_in_expression-2.false)
    (or_then b d refl (c.names_in.ensures ∙ ap (λ b. names_in_body x (body_tree b)) c.deref.ensures.value) c.if-names_in.true)

pub names_in_statement-returns-else-names_in : goal.names_in_statement-returns-else-names_in
names_in_statement-returns-else-names_in t c =
    let x = c.args.name.now in
    let a = names_in_expr x (expr_tree c.in-If.cond) in
    let b = names_in_body x (body_tree c.in-If.then.items) in
    let d = names_in_body x (body_tree c.in-If.other.items) in
    let whole = ap (names_in_stmt x) (ap stmt_tree c.in-If.is ∙ stmt_tree-if c.in-If.cond c.in-If.then c.in-If.other) in
    or_else a (b || d) whole (sym c.names_in_expression-in-If.ensures ∙ c.if-names_in_expression-2.false)
    (or_else b d refl (sym (c.names_in.ensures ∙ ap (λ b. names_in_body x (body_tree b)) c.deref.ensures.value) ∙ c.if-names_in.false) (c.names_in-else-names_in.ensures ∙ ap (λ b. names_in_body x (body_tree b)) c.deref-else-names_in.ensures.value))

pub names_in_statement-returns-else-names_in_expression-3 : goal.names_in_statement-returns-else-names_in_expression-3
names_in_statement-returns-else-names_in_expression-3 t c =
    let x = c.args.name.now in
    let whole = ap (names_in_stmt x) (ap stmt_tree c.in-While.is ∙ stmt_tree-while c.in-While.cond c.in-While.body) in
    or_else (names_in_expr x (expr_tree c.in-While.cond)) (names_in_body x (body_tree c.in-While.body.items)) whole
    (sym c.names_in_expression-in-While.ensures ∙ c.if-names_in_expression-3.false)
    (c.names_in-else-names_in_expression-3.ensures ∙ ap (λ b. names_in_body x (body_tree b)) c.deref-else-names_in_expression-3.ensures.value)

pub names_in_statement-returns-then-names_in-2 : goal.names_in_statement-returns-then-names_in-2
names_in_statement-returns-then-names_in-2 t c =
    let x = c.args.name.now in
    let b = names_in_body x (body_tree c.in-Par.left.items) in
    let d = names_in_body x (body_tree c.in-Par.right.items) in
    let whole = ap (names_in_stmt x) (ap stmt_tree c.in-Par.is ∙ stmt_tree-par c.in-Par.left c.in-Par.right) in
    or_then b d whole (c.names_in-in-Par.ensures ∙ ap (λ b. names_in_body x (body_tree b)) c.deref-in-Par.ensures.value) c.if-names_in-2.true

pub names_in_statement-returns-else-names_in-2 : goal.names_in_statement-returns-else-names_in-2
names_in_statement-returns-else-names_in-2 t c =
    let x = c.args.name.now in
    let b = names_in_body x (body_tree c.in-Par.left.items) in
    let d = names_in_body x (body_tree c.in-Par.right.items) in
    let whole = ap (names_in_stmt x) (ap stmt_tree c.in-Par.is ∙ stmt_tree-par c.in-Par.left c.in-Par.right) in
    or_else b d whole (sym (c.names_in-in-Par.ensures ∙ ap (λ b. names_in_body x (body_tree b)) c.deref-in-Par.ensures.value) ∙ c.if-names_in-2.false) (c.names_in-else-names_in-2.ensures ∙ ap (λ b. names_in_body x (body_tree b)) c.deref-else-names_in-2.ensures.value)

pub names_in_statement-returns-else-names_in_parts : goal.names_in_statement-returns-else-names_in_parts
names_in_statement-returns-else-names_in_parts t c =
    let x = c.args.name.now in
    let head = bytes_eq (name_tree c.in-Split.block) x || names_in_expr x (expr_tree c.in-Split.at) || bytes_eq (name_tree c.in-Split.left) x || bytes_eq (name_tree c.in-Split.right) x in
    let whole = ap (names_in_stmt x) (ap stmt_tree c.in-Split.is ∙ stmt_tree-split c.in-Split.block c.in-Split.at c.in-Split.left c.in-Split.right c.in-Split.body) in
    or_else head (names_in_body x (body_tree c.in-Split.body.items)) whole (sym c.names_in_parts.ensures ∙ c.if-names_in_parts.false)
    (c.names_in-else-names_in_parts.ensures ∙ ap (λ b. names_in_body x (body_tree b)) c.deref-else-names_in_parts.ensures.value)
