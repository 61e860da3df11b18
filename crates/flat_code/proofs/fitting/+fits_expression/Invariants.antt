use Rattle.std.proofs.Common.{◌↔◌, drop}
use Rattle.node_table.specs.Shown.{links_shown}
use Rattle.node_table.specs.Reading.{FitsLinks}
use Rattle.flat_code.proofs.fitting.+fits_expression.Given as goal

abbrev pub invariant-fits_links-loop-link : goal.invariant-fits_links-loop-link
invariant-fits_links-loop-link l = FitsLinks l.slots (links_shown (drop l.link-index l.links)) ↔ FitsLinks l.slots (links_shown l.links)
