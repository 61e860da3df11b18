use Rattle.std.proofs.Common.{rules}
use Rattle.par_text.specs.Grammar.{free_rule}
use Rattle.par_parse.proofs.statements.free_statement.Goals as goal

pub returns-in_err-name : goal.returns-in_err-name
unfolding free_rule
returns-in_err-name c = λ n. search (rules, c.in_err-name.ensures n)

pub returns-in_err-rest : goal.returns-in_err-rest
unfolding free_rule
returns-in_err-rest c = λ n. search (rules, c.in_ok-name.ensures n)

pub returns : goal.returns
unfolding free_rule
returns c = λ n. search (rules, c.in_ok-name.ensures n)
