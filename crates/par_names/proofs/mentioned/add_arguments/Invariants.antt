use Rattle.std.proofs.Common.{◌≡◌, ◌++◌, drop}
use Rattle.par_tree.specs.View.{args_tree}
use Rattle.par_tree.specs.Names.{args_names}
use Rattle.par_names.specs.Sets.{names_behind}
use Rattle.par_names.proofs.mentioned.add_arguments.Given as goal

abbrev pub invariant-list : goal.invariant-list
invariant-list l =
    names_behind l.out.items ++ args_names (args_tree (drop l.arg-index l.args)) ≡ names_behind l.initial.out.items ++ args_names (args_tree l.args)
