use Rattle.std.proofs.Common.{◌≡◌, drop}
use Rattle.par_tree.specs.View.{body_tree}
use Rattle.par_tree.specs.Names.{names_in_body}
use Rattle.par_names.proofs.mentions.+names_in_statement.Given as goal

abbrev pub invariant-names_in-loop-stmt : goal.invariant-names_in-loop-stmt
invariant-names_in-loop-stmt l = names_in_body l.name (body_tree (drop l.stmt-index l.body)) ≡ names_in_body l.name (body_tree l.body)
