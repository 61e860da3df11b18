use Rattle.std.proofs.Common.{◌≡◌, ◌++◌, drop, map}
use Rattle.std.specs.List.{flat_map}
use Rattle.par_tree.specs.View.{params_tree}
use Rattle.canonical_text.specs.Canonical.{param_text, behind_comma}
use Rattle.par_print.proofs.lists.print_more_params.Given as goal

abbrev pub invariant-params : goal.invariant-params
invariant-params l =
    l.out.items ++ flat_map behind_comma (map param_text (params_tree (drop l.next-index l.params)))
    ≡ l.initial.out.items ++ flat_map behind_comma (map param_text (params_tree l.params))
