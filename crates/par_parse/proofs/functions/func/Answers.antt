use Rattle.std.proofs.Common.{rules}
use Rattle.par_text.specs.Grammar.{func_rule}
use Rattle.par_parse.proofs.functions.func.Goals as goal

pub returns-in_err-name : goal.returns-in_err-name
unfolding func_rule
returns-in_err-name c = search (rules, c.in_err-name.ensures c.args.depth)

pub returns-in_err-params : goal.returns-in_err-params
unfolding func_rule
returns-in_err-params c = search (rules, c.in_ok-name.ensures c.args.depth)

pub returns-in_err-body : goal.returns-in_err-body
unfolding func_rule
returns-in_err-body c = search (rules, c.in_ok-name.ensures c.args.depth)

pub returns : goal.returns
unfolding func_rule
returns c = search (rules, c.in_ok-name.ensures c.args.depth)
