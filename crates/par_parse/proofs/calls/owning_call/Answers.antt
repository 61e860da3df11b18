use Rattle.std.proofs.Common.{rules}
use Rattle.par_text.specs.Grammar.{owning_call}
use Rattle.par_parse.proofs.calls.owning_call.Goals as goal

pub returns-in_err-block : goal.returns-in_err-block
unfolding owning_call
returns-in_err-block c = search (rules, c.in_err-block.ensures c.args.depth)

pub returns-in_err-rest-2 : goal.returns-in_err-rest-2
unfolding owning_call
returns-in_err-rest-2 c = search (rules, c.in_ok-block.ensures c.args.depth)

pub returns-in_err-func : goal.returns-in_err-func
unfolding owning_call
returns-in_err-func c = search (rules, c.in_ok-block.ensures c.args.depth, c.in_err-func.ensures c.args.depth)

pub returns-in_err-args : goal.returns-in_err-args
unfolding owning_call
returns-in_err-args c = search (rules, c.in_ok-block.ensures c.args.depth, c.in_ok-func.ensures c.args.depth)

pub returns : goal.returns
unfolding owning_call
returns c = search (rules, c.in_ok-block.ensures c.args.depth, c.in_ok-func.ensures c.args.depth)
