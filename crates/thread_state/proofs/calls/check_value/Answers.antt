use Rattle.std.proofs.Common.{refl, sym, ap, ◌∙◌, subst}
use Rattle.node_table.specs.Table
use Rattle.node_table.specs.Shown.{arg_shown, expr_shown}
use Rattle.node_table.specs.Reading.{IsArg, expr_read}
use Rattle.thread_state.proofs.Passing.{value_found, no_value}
use Rattle.thread_state.proofs.calls.check_value.Goals as goal

pub returns-in_ok-_value-in-Value : goal.returns-in_ok-_value-in-Value
returns-in_ok-_value-in-Value c names store q a g shows is =
    let e = expr_read names (expr_shown c.in-Value.expr) in
    let read = subst (λ (x : Table.Arg). IsArg names x a) (ap arg_shown c.in-Value.is) is in
    value_found store q e a c.in_ok-_value-in-Value._value g read.0
    (sym (c.evaluate.ensures names store e shows (refl, read.1)) ∙ c.in_ok-_value-in-Value.was)

pub returns-in-Lend : goal.returns-in-Lend
returns-in-Lend c names store q a g shows is = no_value names store q c.args.arg.now a g c.in-Lend.is is

pub returns-in-Lend-2 : goal.returns-in-Lend-2
returns-in-Lend-2 c names store q a g shows is = no_value names store q c.args.arg.now a g c.in-Lend.is is
