use Rattle.std.proofs.Common.{rules}
use Rattle.par_text.specs.Grammar.{callee_rule}
use Rattle.par_parse.proofs.calls.callee.Goals as goal

pub returns-in_err-callee : goal.returns-in_err-callee
unfolding callee_rule
returns-in_err-callee c = λ n. search (rules, c.in_err-callee.ensures n)

pub returns : goal.returns
unfolding callee_rule
returns c = λ n. search (rules, c.in_ok-callee.ensures n)
