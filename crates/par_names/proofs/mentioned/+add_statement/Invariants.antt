use Rattle.std.proofs.Common.{◌≡◌, ◌++◌, drop}
use Rattle.par_tree.specs.View.{body_tree}
use Rattle.par_tree.specs.Names.{body_names}
use Rattle.par_names.specs.Sets.{names_behind}
use Rattle.par_names.proofs.mentioned.+add_statement.Given as goal

abbrev pub invariant-add_names-body : goal.invariant-add_names-body
invariant-add_names-body l =
    names_behind l.out.items ++ body_names (body_tree (drop l.stmt-index l.body)) ≡ names_behind l.initial.out.items ++ body_names (body_tree l.body)
