use Rattle.std.proofs.Common.{◌≤◌, arith, rules}
use Rattle.node_table.specs.Codes.{code_shown}
use Rattle.flat_program.specs.declared.making.TheConstants.{MOST_NUMBERS}
use Rattle.flat_program.proofs.Sizes.{none_serves}
use Rattle.flat_program.proofs.making.size_for.Goals as goal

pub returns-clause-none : goal.returns-clause-none
returns-clause-none c none size low less is =
    let end : MOST_NUMBERS ≤ c.loop-more.more = search rules in
    none_serves (code_shown c.args.table.now) c.args.slots c.loop-more.more c.args.list c.loop-more.invariant size (omega (arith, low, end)) less is
