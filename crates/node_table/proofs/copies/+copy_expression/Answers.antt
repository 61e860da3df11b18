use Rattle.std.proofs.Common.{◌≡◌, ◌∙◌, refl, ap}
use Rattle.node_table.specs.Shown.{expr_shown, links_shown}
use Rattle.node_table.proofs.Lists.{continues_end}
use Rattle.node_table.proofs.Showing.{chain_alike}
use Rattle.node_table.proofs.copies.+copy_expression.Goals as goal

pub copy_links-returns : goal.copy_links-returns
copy_links-returns t c = continues_end (λ cs ys. links_shown cs ≡ links_shown ys) c.args.rest.now c.loop-link.found.items c.loop-link.link-index c.loop-link-test.false c.loop-link.invariant refl

pub copy_expression-returns-in_ok-rest-in-Chain : goal.copy_expression-returns-in_ok-rest-in-Chain
copy_expression-returns-in_ok-rest-in-Chain t c =
    chain_alike c.in_ok-first-in-Chain.first c.in-Chain.first c.in_ok-rest-in-Chain.rest c.in-Chain.rest c.args.expr.now c.in-Chain.is
    (c.in_ok-first-in-Chain.ensures ∙ ap expr_shown c.deref-in-Chain.ensures)
    (c.in_ok-rest-in-Chain.ensures ∙ ap links_shown c.deref-in-Chain-2.ensures.value)
