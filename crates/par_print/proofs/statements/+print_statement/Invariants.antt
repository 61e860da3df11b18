use Rattle.std.proofs.Common.{◌≡◌, ◌++◌, drop}
use Rattle.par_tree.specs.View.{body_tree}
use Rattle.canonical_text.specs.Canonical.{body_text}
use Rattle.par_print.proofs.statements.+print_statement.Given as goal

abbrev pub invariant-print_body-statements : goal.invariant-print_body-statements
invariant-print_body-statements l =
    l.out.items ++ body_text l.margin (body_tree (drop l.stmt-index l.stmts)) ≡ l.initial.out.items ++ body_text l.margin (body_tree l.stmts)
