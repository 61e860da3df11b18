use Rattle.std.proofs.Common.{rules}
use Rattle.par_text.specs.Grammar.{arg_rule}
use Rattle.par_parse.proofs.calls.arg.Goals as goal

pub returns-in_err-block-in-Use : goal.returns-in_err-block-in-Use
unfolding arg_rule
returns-in_err-block-in-Use c = search (rules, c.in_err-block-in-Use.ensures c.args.depth)

pub returns-in_err-block-in-Own : goal.returns-in_err-block-in-Own
unfolding arg_rule
returns-in_err-block-in-Own c = search (rules, c.in_err-block-in-Own.ensures c.args.depth)

pub returns-in_ok-block-in-Use : goal.returns-in_ok-block-in-Use
unfolding arg_rule
returns-in_ok-block-in-Use c = search (rules, c.in_ok-block-in-Use.ensures c.args.depth)

pub returns-in_ok-block-in-Own : goal.returns-in_ok-block-in-Own
unfolding arg_rule
returns-in_ok-block-in-Own c = search (rules, c.in_ok-block-in-Own.ensures c.args.depth)
