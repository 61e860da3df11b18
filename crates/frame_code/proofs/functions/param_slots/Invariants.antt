use Rattle.par_tree.specs.View.{params_tree}
use Rattle.par_tree.specs.Names.{param_names}
use Rattle.frame_code.specs.Scopes.{names_tree}
use Rattle.node_table.specs.Reading.{AreSlots}
use Rattle.node_table.proofs.Lists.{Continues}
use Rattle.frame_code.proofs.functions.param_slots.Given as goal

abbrev pub invariant-loop-param : goal.invariant-loop-param
invariant-loop-param l = Continues (λ cs xs. AreSlots (names_tree l.names.names.items) cs (param_names (params_tree xs))) l.params l.found.items l.param-index
