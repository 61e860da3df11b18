use Rattle.std.proofs.Common.{◌≡◌, ◌++◌, drop, map}
use Rattle.std.specs.List.{flat_map}
use Rattle.par_tree.specs.View.{args_tree}
use Rattle.canonical_text.specs.Canonical.{arg_text, behind_comma}
use Rattle.par_print.proofs.lists.print_more_args.Given as goal

abbrev pub invariant-more : goal.invariant-more
invariant-more l =
    l.out.items ++ flat_map behind_comma (map arg_text (args_tree (drop l.next-index l.args)))
    ≡ l.initial.out.items ++ flat_map behind_comma (map arg_text (args_tree l.args))
