use Rattle.std.proofs.Common.{◌≡◌, ◌++◌, drop}
use Rattle.par_tree.specs.View.{links_tree}
use Rattle.canonical_text.specs.Canonical.{links_text}
use Rattle.par_print.proofs.expressions.+print_expression.Given as goal

abbrev pub invariant-print_links-links : goal.invariant-print_links-links
invariant-print_links-links l =
    l.out.items ++ links_text (links_tree (drop l.link-index l.rest)) ≡ l.initial.out.items ++ links_text (links_tree l.rest)
