use Rattle.std.proofs.Common.{◌≡◌}
use Rattle.node_table.specs.Shown.{links_shown}
use Rattle.node_table.proofs.Lists.{Continues}
use Rattle.node_table.proofs.copies.+copy_expression.Given as goal

abbrev pub invariant-copy_links-loop-link : goal.invariant-copy_links-loop-link
invariant-copy_links-loop-link l = Continues (λ cs ys. links_shown cs ≡ links_shown ys) l.rest l.found.items l.link-index
