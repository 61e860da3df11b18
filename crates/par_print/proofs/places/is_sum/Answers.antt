use Rattle.std.proofs.Common.{List, sym, ap, ◌∙◌}
use Rattle.par_tree.specs.View.{expr_tree, links_tree}
use Rattle.par_tree.specs.declared.expr.Expr.{Expr}
use Rattle.par_tree.specs.declared.link.Link.{Link}
use Rattle.par_tree.proofs.Lists.{expr_tree-chain}
use Rattle.canonical_text.specs.Canonical.{are_of_sum, is_sum}
use Rattle.par_print.proofs.places.is_sum.Goals as goal

pub returns-in-Chain : goal.returns-in-Chain
returns-in-Chain c =
    c.are_of_sum.ensures
    ∙ ap (λ (l : List Link). are_of_sum (links_tree l)) c.deref.ensures.value
    ∙ sym (ap is_sum (expr_tree-chain c.in-Chain.first c.in-Chain.rest))
    ∙ ap (λ (e : Expr). is_sum (expr_tree e)) (sym c.in-Chain.is)
