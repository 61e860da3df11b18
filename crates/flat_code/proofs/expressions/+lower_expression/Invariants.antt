use Rattle.std.proofs.Common.{◌≡◌, ◌+◌, ◌≤◌, ◌++◌, length}
use Rattle.node_table.specs.Shown.{expr_shown, links_shown}
use Rattle.flat_expressions.specs.Codes.{HaveRoom}
use Rattle.flat_expressions.specs.Shown.{operand_shown, acts_shown}
use Rattle.flat_code.specs.Room.{most_slots}
use Rattle.flat_code.proofs.Weights.{expr_weight, links_weight}
use Rattle.flat_code.proofs.Links.{links_left}
use Rattle.flat_code.proofs.expressions.+lower_expression.Given as goal

abbrev pub decreases-lower_expression : goal.decreases-lower_expression
decreases-lower_expression l = expr_weight (expr_shown l.expr.now)

abbrev pub decreases-lower_operand : goal.decreases-lower_operand
decreases-lower_operand l = expr_weight (expr_shown l.expr.now) + 1

abbrev pub decreases-lower_links : goal.decreases-lower_links
decreases-lower_links l = links_weight (links_shown l.links.now)

-- the acts so far, and those of the links that are left, are those that there were and those of all links
abbrev pub invariant-lower_links-links : goal.invariant-lower_links-links
invariant-lower_links-links l =
    (acts_shown l.acts.items ++ links_left (links_shown l.rest) l.to l.free (operand_shown l.left)
    ≡ acts_shown l.initial.acts.items ++ links_left (links_shown l.links) l.to l.free (operand_shown l.fn.front))
    × HaveRoom most_slots (links_shown l.rest) l.free × (links_weight (links_shown l.rest) ≤ links_weight (links_shown l.links))

abbrev pub decreases-lower_links-links : goal.decreases-lower_links-links
decreases-lower_links-links l = length l.rest
