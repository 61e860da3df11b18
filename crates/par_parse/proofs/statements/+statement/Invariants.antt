use Rattle.std.proofs.Common.{◌≡◌, ◌+◌, ◌*◌, ◌-◌, map}
use Rattle.par_text.specs.Reading.{read_many}
use Rattle.par_text.specs.Parsing.{read}
use Rattle.par_lex.specs.Words.{words}
use Rattle.par_parse.proofs.Loops.{with_front}
use Rattle.par_tree.specs.Tree.{done}
use Rattle.par_text.specs.Grammar.{stepped, begins_statement, stmt_rule, stmts_rule}
use Rattle.par_parse.specs.Gives.{line_and_tree}
use Rattle.par_parse.proofs.statements.+statement.Given as goal

abbrev pub decreases-statements : goal.decreases-statements
decreases-statements l = 16 * l.depth + 9

abbrev pub decreases-statement : goal.decreases-statement
decreases-statement l = 16 * l.depth + 8

abbrev pub decreases-if_statement : goal.decreases-if_statement
decreases-if_statement l = 16 * l.depth + 5

abbrev pub decreases-while_statement : goal.decreases-while_statement
decreases-while_statement l = 16 * l.depth + 5

abbrev pub decreases-par_statement : goal.decreases-par_statement
decreases-par_statement l = 16 * l.depth + 5

abbrev pub decreases-split_statement : goal.decreases-split_statement
decreases-split_statement l = 16 * l.depth + 5

abbrev pub decreases-else_part : goal.decreases-else_part
decreases-else_part l = 16 * l.depth + 3

abbrev pub decreases-body : goal.decreases-body
decreases-body l = 16 * l.depth + 1

abbrev pub invariant-statements-body : goal.invariant-statements-body
invariant-statements-body l =
    with_front stepped (map line_and_tree l.body.items) (read_many begins_statement stepped done (read l.depth stmt_rule) (l.end - l.counter) (words l.text l.rest)) ≡ read l.depth stmts_rule (words l.text l.tokens)
