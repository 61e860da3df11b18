use Rattle.std.proofs.Common.{◌≡◌, ◌++◌, drop}
use Rattle.par_tree.specs.View.{links_tree}
use Rattle.par_tree.specs.Names.{links_names}
use Rattle.par_names.specs.Sets.{names_behind}
use Rattle.par_names.proofs.mentioned.+add_expression.Given as goal

abbrev pub invariant-add_links-links : goal.invariant-add_links-links
invariant-add_links-links l =
    names_behind l.out.items ++ links_names (links_tree (drop l.link-index l.rest)) ≡ names_behind l.initial.out.items ++ links_names (links_tree l.rest)
