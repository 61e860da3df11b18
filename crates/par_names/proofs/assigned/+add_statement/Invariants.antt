use Rattle.std.proofs.Common.{◌≡◌, ◌++◌, drop}
use Rattle.par_tree.specs.View.{body_tree}
use Rattle.par_tree.specs.Names.{body_assigned}
use Rattle.par_names.specs.Sets.{names_behind}
use Rattle.par_names.proofs.assigned.+add_statement.Given as goal

abbrev pub invariant-add_assigned-body : goal.invariant-add_assigned-body
invariant-add_assigned-body l =
    names_behind l.out.items ++ body_assigned (body_tree (drop l.stmt-index l.body)) ≡ names_behind l.initial.out.items ++ body_assigned (body_tree l.body)
