use Rattle.std.proofs.Common.{◌≡◌, drop}
use Rattle.par_tree.specs.View.{args_tree}
use Rattle.par_tree.specs.Names.{names_in_args}
use Rattle.par_names.proofs.mentions.names_in_arguments.Given as goal

abbrev pub invariant-loop-arg : goal.invariant-loop-arg
invariant-loop-arg l = names_in_args l.name (args_tree (drop l.arg-index l.args)) ≡ names_in_args l.name (args_tree l.args)
