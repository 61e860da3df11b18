use Rattle.std.proofs.Common.{sym, ap, ◌∙◌}
use Rattle.par_tree.specs.View.{expr_tree, links_tree}
use Rattle.par_tree.proofs.Lists.{expr_tree-chain}
use Rattle.par_tree.specs.Names.{names_in_expr, names_in_links}
use Rattle.par_names.proofs.Tests.{or_else}
use Rattle.par_names.proofs.mentions.+names_in_expression.Goals as goal

pub names_in_expression-returns-else-names_in_expression : goal.names_in_expression-returns-else-names_in_expression
names_in_expression-returns-else-names_in_expression t c =
    let x = c.args.name.now in
    let first = names_in_expr x (expr_tree c.in-Chain.first.value) in
    let others = names_in_links x (links_tree c.in-Chain.rest.items) in
    let whole = ap (names_in_expr x) (ap expr_tree c.in-Chain.is ∙ expr_tree-chain c.in-Chain.first c.in-Chain.rest) in
    or_else first others whole (sym (c.names_in_expression-in-Chain.ensures ∙ ap (λ e. names_in_expr x (expr_tree e)) c.deref-in-Chain.ensures) ∙ c.if-names_in_expression.false) (c.names_in_links.ensures ∙ ap (λ ls. names_in_links x (links_tree ls)) c.deref-else-names_in_expression.ensures.value)
