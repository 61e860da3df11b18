use Rattle.std.proofs.Common.{rules}
use Rattle.par_text.specs.Grammar.{params_rule}
use Rattle.par_parse.proofs.functions.params.Goals as goal

pub returns-in_err-params : goal.returns-in_err-params
unfolding params_rule
returns-in_err-params c = search (rules, c.in_err-params.ensures c.args.depth)

pub returns-in_err-rest-2 : goal.returns-in_err-rest-2
unfolding params_rule
returns-in_err-rest-2 c = search (rules, c.in_ok-params.ensures c.args.depth)

pub returns : goal.returns
unfolding params_rule
returns c = search (rules, c.in_ok-params.ensures c.args.depth)
