use Rattle.std.proofs.Common.{◌≡◌, drop}
use Rattle.par_tree.specs.View.{links_tree}
use Rattle.par_ownership.specs.Walk.{links_refusal}
use Rattle.block_check.specs.Shown.{entries_shown}
use Rattle.block_check.proofs.expressions.+check_expression.Given as goal

abbrev pub invariant-check_links-loop-link : goal.invariant-check_links-loop-link
invariant-check_links-loop-link l =
    links_refusal l.line (entries_shown l.env) (links_tree (drop l.link-index l.rest)) ≡ links_refusal l.line (entries_shown l.env) (links_tree l.rest)
