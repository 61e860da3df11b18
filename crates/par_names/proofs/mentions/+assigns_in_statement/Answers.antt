use Rattle.std.proofs.Common.{inl, inr, sym, ap, ◌∙◌}
use Rattle.par_tree.specs.View.{stmt_tree, body_tree}
use Rattle.par_tree.proofs.Lists.{stmt_tree-if, stmt_tree-while, stmt_tree-par, stmt_tree-split}
use Rattle.par_tree.specs.Names.{assigns_in_stmt, assigns_in_body}
use Rattle.par_names.proofs.Tests.{or_then, or_else}
use Rattle.par_names.proofs.mentions.+assigns_in_statement.Goals as goal

pub assigns_in_statement-returns-then-assigns_in : goal.assigns_in_statement-returns-then-assigns_in
assigns_in_statement-returns-then-assigns_in t c =
    let x = c.args.name.now in
    let b = assigns_in_body x (body_tree c.in-If.then.items) in
    let d = assigns_in_body x (body_tree c.in-If.other.items) in
    let whole = ap (assigns_in_stmt x) (ap stmt_tree c.in-If.is ∙ stmt_tree-if c.in-If.cond c.in-If.then c.in-If.other) in
    or_then b d whole (c.assigns_in.ensures ∙ ap (λ b. assigns_in_body x (body_tree b)) c.deref.ensures.value) c.if-assigns_in.true

pub assigns_in_statement-returns-else-assigns_in : goal.assigns_in_statement-returns-else-assigns_in
assigns_in_statement-returns-else-assigns_in t c =
    let x = c.args.name.now in
    let b = assigns_in_body x (body_tree c.in-If.then.items) in
    let d = assigns_in_body x (body_tree c.in-If.other.items) in
    let whole = ap (assigns_in_stmt x) (ap stmt_tree c.in-If.is ∙ stmt_tree-if c.in-If.cond c.in-If.then c.in-If.other) in
    or_else b d whole (sym (c.assigns_in.ensures ∙ ap (λ b. assigns_in_body x (body_tree b)) c.deref.ensures.value) ∙ c.if-assigns_in.false) (c.assigns_in-else-assigns_in.ensures ∙ ap (λ b. assigns_in_body x (body_tree b)) c.deref-else-assigns_in.ensures.value)

pub assigns_in_statement-returns-then-assigns_in-2 : goal.assigns_in_statement-returns-then-assigns_in-2
assigns_in_statement-returns-then-assigns_in-2 t c =
    let x = c.args.name.now in
    let b = assigns_in_body x (body_tree c.in-Par.left.items) in
    let d = assigns_in_body x (body_tree c.in-Par.right.items) in
    let whole = ap (assigns_in_stmt x) (ap stmt_tree c.in-Par.is ∙ stmt_tree-par c.in-Par.left c.in-Par.right) in
    or_then b d whole (c.assigns_in-in-Par.ensures ∙ ap (λ b. assigns_in_body x (body_tree b)) c.deref-in-Par.ensures.value) c.if-assigns_in-2.true

pub assigns_in_statement-returns-else-assigns_in-2 : goal.assigns_in_statement-returns-else-assigns_in-2
assigns_in_statement-returns-else-assigns_in-2 t c =
    let x = c.args.name.now in
    let b = assigns_in_body x (body_tree c.in-Par.left.items) in
    let d = assigns_in_body x (body_tree c.in-Par.right.items) in
    let whole = ap (assigns_in_stmt x) (ap stmt_tree c.in-Par.is ∙ stmt_tree-par c.in-Par.left c.in-Par.right) in
    or_else b d whole (sym (c.assigns_in-in-Par.ensures ∙ ap (λ b. assigns_in_body x (body_tree b)) c.deref-in-Par.ensures.value) ∙ c.if-assigns_in-2.false) (c.assigns_in-else-assigns_in-2.ensures ∙ ap (λ b. assigns_in_body x (body_tree b)) c.deref-else-assigns_in-2.ensures.value)

pub assigns_in_statement-returns-in-While : goal.assigns_in_statement-returns-in-While
assigns_in_statement-returns-in-While t c =
    let x = c.args.name.now in
    let told = c.assigns_in-in-While.ensures ∙ ap (λ b. assigns_in_body x (body_tree b)) c.deref-in-While.ensures.value in
    elim c.in-While.is [
      | inl w ↦ told ∙ sym (ap (assigns_in_stmt x) (ap stmt_tree w.1 ∙ stmt_tree-while w.0 c.in-While.body))
      | inr w ↦ told ∙ sym (ap (assigns_in_stmt x) (ap stmt_tree w.4 ∙ stmt_tree-split w.0 w.1 w.2 w.3 c.in-While.body))
    ]
