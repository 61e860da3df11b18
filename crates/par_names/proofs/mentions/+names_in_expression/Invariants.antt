use Rattle.std.proofs.Common.{◌≡◌, drop}
use Rattle.par_tree.specs.View.{links_tree}
use Rattle.par_tree.specs.Names.{names_in_links}
use Rattle.par_names.proofs.mentions.+names_in_expression.Given as goal

abbrev pub invariant-names_in_links-loop-link : goal.invariant-names_in_links-loop-link
invariant-names_in_links-loop-link l = names_in_links l.name (links_tree (drop l.link-index l.rest)) ≡ names_in_links l.name (links_tree l.rest)
