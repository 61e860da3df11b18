use Rattle.std.proofs.Common.{List, ℕ, ◌++◌, ap, ◌∙◌}
use Rattle.par_tree.specs.View.{expr_tree, links_tree}
use Rattle.par_tree.specs.declared.expr.Expr.{Expr}
use Rattle.par_tree.specs.declared.link.Link.{Link}
use Rattle.canonical_text.specs.declared.place.Place.{Place}
use Rattle.canonical_text.specs.Canonical.{links_text, text_in, first_place}
use Rattle.par_print.proofs.Parts.{if_ok, two_written, chain_text}
use Rattle.par_print.proofs.expressions.+print_expression.Goals as goal

pub print_expression-returns-in_ok-print_operand-in-Chain : goal.print_expression-returns-in_ok-print_operand-in-Chain
print_expression-returns-in_ok-print_operand-in-Chain t c =
    let at = c.first_place.ensures ∙ ap (λ (l : List Link). first_place (links_tree l)) c.deref-in-Chain.ensures.value in
    let behind = ap (λ (l : List Link). c.print_operand.new.out.items ++ links_text (links_tree l)) c.deref-in-Chain-3.ensures.value in
    if_ok c.print_links.result
    (λ e.
    two_written c.args.out.now.items (text_in c.first_place.result (expr_tree c.in-Chain.first.value)) (links_text (links_tree c.in-Chain.rest.items)) c.print_operand.new.out.items c.print_links.new.out.items
    (c.in_ok-print_operand-in-Chain.ensures ∙ ap (λ (x : Expr). c.args.out.now.items ++ text_in c.first_place.result (expr_tree x)) c.deref-in-Chain-2.ensures) (e ∙ behind)
    ∙ ap (λ (p : Place). c.args.out.now.items ++ (text_in p (expr_tree c.in-Chain.first.value) ++ links_text (links_tree c.in-Chain.rest.items))) at
    ∙ ap (λ (x : List ℕ). c.args.out.now.items ++ x) (chain_text c.args.expr.now c.in-Chain.first c.in-Chain.rest c.in-Chain.is))
    c.print_links.ensures
