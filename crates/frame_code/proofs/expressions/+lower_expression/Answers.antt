use Rattle.std.proofs.Common.{rules, refl, sym, ap, subst, ◌∙◌}
use Rattle.par_tree.specs.View.{expr_tree, links_tree}
use Rattle.par_tree.proofs.Lists.{expr_tree-chain}
use Rattle.frame_code.specs.Scopes.{names_tree}
use Rattle.node_table.specs.Reading.{IsExpr, AreLinks}
use Rattle.node_table.specs.Shown.{expr_shown, links_shown}
use Rattle.frame_code.proofs.Having.{link_has, chain_has}
use Rattle.frame_code.proofs.Weights.{links_weight, link_lighter, chain_weight}
use Rattle.frame_code.proofs.Rows.{chain_is}
use Rattle.node_table.proofs.Lists.{continues_end}
use Rattle.frame_code.proofs.expressions.+lower_expression.Goals as goal

pub lower_expression-returns-in_ok-rest-in-Chain : goal.lower_expression-returns-in_ok-rest-in-Chain
lower_expression-returns-in_ok-rest-in-Chain t c =
    let names = names_tree c.args.names.now.names.items in
    let same = ap expr_tree c.in-Chain.is ∙ expr_tree-chain c.in-Chain.first c.in-Chain.rest in
    let first = subst (λ e. IsExpr names (expr_shown e) (expr_tree c.in-Chain.first.value)) (sym c.in_ok-first-in-Chain-2.ensures.ok)
    (subst (λ e. IsExpr names (expr_shown c.in_ok-first-in-Chain.first) (expr_tree e)) c.deref-in-Chain.ensures c.in_ok-first-in-Chain.ensures) in
    let rest = subst (λ xs. AreLinks names (links_shown c.in_ok-rest-in-Chain.rest.items) (links_tree xs)) c.deref-in-Chain-2.ensures.value c.in_ok-rest-in-Chain.ensures in
    chain_is names c.in_ok-first-in-Chain-2.first c.in_ok-rest-in-Chain.rest (expr_tree c.in-Chain.first.value) (links_tree c.in-Chain.rest.items) (expr_tree c.args.expr.now) same first rest

pub lower_links-returns : goal.lower_links-returns
lower_links-returns t c =
    continues_end (λ cs ls. AreLinks (names_tree c.args.names.now.names.items) (links_shown cs) (links_tree ls)) c.args.rest.now c.loop-link.found.items c.loop-link.link-index c.loop-link-test.false c.loop-link.invariant (refl, tt)

pub lower_expression-lower_links-requires : goal.lower_expression-lower_links-requires
lower_expression-lower_links-requires t c =
    let has = chain_has (names_tree c.args.names.now.names.items) c.in-Chain.first c.in-Chain.rest c.args.expr.now c.deref-in-Chain-2.result.now c.in-Chain.is c.deref-in-Chain-2.ensures.value c.requires in
    let whole = chain_weight c.in-Chain.first c.in-Chain.rest c.args.expr.now c.in-Chain.is in
    let same = ap (λ ls. links_weight (links_tree ls)) c.deref-in-Chain-2.ensures.value in
    search rules

pub lower_links-lower_expression-requires : goal.lower_links-lower_expression-requires
lower_links-lower_expression-requires t c =
    let has = link_has (names_tree c.args.names.now.names.items) c.args.rest.now c.loop-link.link-index c.link-item.result c.loop-link-test.true c.link-item.is c.requires in
    let less = link_lighter c.args.rest.now c.loop-link.link-index c.link-item.result c.loop-link-test.true c.link-item.is in
    search rules
