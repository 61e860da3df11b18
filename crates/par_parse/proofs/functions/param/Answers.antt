use Rattle.std.proofs.Common.{rules}
use Rattle.par_text.specs.Grammar.{param_rule}
use Rattle.par_parse.proofs.functions.param.Goals as goal

pub returns-in_err-name-in-Use : goal.returns-in_err-name-in-Use
unfolding param_rule
returns-in_err-name-in-Use c = λ n. search (rules, c.in_err-name-in-Use.ensures n)

pub returns-in_err-name-in-Own : goal.returns-in_err-name-in-Own
unfolding param_rule
returns-in_err-name-in-Own c = λ n. search (rules, c.in_err-name-in-Own.ensures n)

pub returns-in_err-name-in_default : goal.returns-in_err-name-in_default
unfolding param_rule
returns-in_err-name-in_default c = λ n. search (rules, c.in_err-name-in_default.ensures n)

pub returns-in_ok-name-in-Use : goal.returns-in_ok-name-in-Use
unfolding param_rule
returns-in_ok-name-in-Use c = λ n. search (rules, c.in_ok-name-in-Use.ensures n)

pub returns-in_ok-name-in-Own : goal.returns-in_ok-name-in-Own
unfolding param_rule
returns-in_ok-name-in-Own c = λ n. search (rules, c.in_ok-name-in-Own.ensures n)

pub returns-in_ok-name-in_default : goal.returns-in_ok-name-in_default
unfolding param_rule
returns-in_ok-name-in_default c = λ n. search (rules, c.in_ok-name-in_default.ensures n)
