use Rattle.par_tree.specs.View.{expr_tree, links_tree}
use Rattle.frame_code.specs.Scopes.{names_tree}
use Rattle.node_table.specs.Reading.{AreLinks}
use Rattle.node_table.specs.Shown.{links_shown}
use Rattle.node_table.proofs.Lists.{Continues}
use Rattle.frame_code.proofs.Weights.{expr_weight, links_weight}
use Rattle.frame_code.proofs.expressions.+lower_expression.Given as goal

abbrev pub decreases-lower_expression : goal.decreases-lower_expression
decreases-lower_expression l = expr_weight (expr_tree l.expr.now)

abbrev pub decreases-lower_links : goal.decreases-lower_links
decreases-lower_links l = links_weight (links_tree l.rest.now)

abbrev pub invariant-lower_links-loop-link : goal.invariant-lower_links-loop-link
invariant-lower_links-loop-link l =
    Continues (λ cs ls. AreLinks (names_tree l.names.names.items) (links_shown cs) (links_tree ls)) l.rest l.found.items l.link-index
