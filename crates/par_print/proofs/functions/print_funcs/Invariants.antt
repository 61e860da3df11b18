use Rattle.std.proofs.Common.{◌≡◌, ◌++◌, drop, map}
use Rattle.std.specs.List.{flat_map}
use Rattle.par_tree.specs.View.{func_tree}
use Rattle.canonical_text.specs.Canonical.{func_text}
use Rattle.par_print.proofs.functions.print_funcs.Given as goal

abbrev pub invariant-funcs : goal.invariant-funcs
invariant-funcs l =
    l.out.items ++ flat_map func_text (map func_tree (drop l.next-index l.all)) ≡ l.initial.out.items ++ flat_map func_text (map func_tree l.all)
