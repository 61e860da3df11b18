use Rattle.std.proofs.Common.{rules, ap, ◌∙◌}
use Rattle.node_table.specs.Shown.{expr_shown}
use Rattle.node_table.proofs.Showing.{expr_shown-chain}
use Rattle.flat_code.proofs.fitting.+fits_expression.Goals as goal

pub fits_expression-returns-then-fits_expression : goal.fits_expression-returns-then-fits_expression
fits_expression-returns-then-fits_expression t c =
    let whole = ap expr_shown c.in-Chain.is ∙ expr_shown-chain c.in-Chain.first c.in-Chain.rest in
    search rules
