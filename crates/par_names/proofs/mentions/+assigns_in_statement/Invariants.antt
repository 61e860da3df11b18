use Rattle.std.proofs.Common.{◌≡◌, drop}
use Rattle.par_tree.specs.View.{body_tree}
use Rattle.par_tree.specs.Names.{assigns_in_body}
use Rattle.par_names.proofs.mentions.+assigns_in_statement.Given as goal

abbrev pub invariant-assigns_in-loop-stmt : goal.invariant-assigns_in-loop-stmt
invariant-assigns_in-loop-stmt l = assigns_in_body l.name (body_tree (drop l.stmt-index l.body)) ≡ assigns_in_body l.name (body_tree l.body)
