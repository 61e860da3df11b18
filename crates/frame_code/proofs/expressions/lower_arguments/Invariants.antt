use Rattle.par_tree.specs.View.{args_tree}
use Rattle.frame_code.specs.Scopes.{names_tree}
use Rattle.node_table.specs.Reading.{AreArgs}
use Rattle.node_table.specs.Shown.{args_shown}
use Rattle.node_table.proofs.Lists.{Continues}
use Rattle.frame_code.proofs.expressions.lower_arguments.Given as goal

abbrev pub invariant-loop-arg : goal.invariant-loop-arg
invariant-loop-arg l =
    Continues (λ cs xs. AreArgs (names_tree l.names.names.items) (args_shown cs) (args_tree xs)) l.args l.found.items l.arg-index
