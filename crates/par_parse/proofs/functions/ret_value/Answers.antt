use Rattle.std.proofs.Common.{rules}
use Rattle.par_text.specs.Grammar.{ret_value}
use Rattle.par_parse.proofs.functions.ret_value.Goals as goal

pub returns-in_err-block-in-Own : goal.returns-in_err-block-in-Own
unfolding ret_value
returns-in_err-block-in-Own c = search (rules, c.in_err-block-in-Own.ensures c.args.depth)

pub returns-in_ok-block-in-Own : goal.returns-in_ok-block-in-Own
unfolding ret_value
returns-in_ok-block-in-Own c = search (rules, c.in_ok-block-in-Own.ensures c.args.depth)
