use Rattle.command_line.proofs.Items.{no_named}
use Rattle.command_line.proofs.item.next_option.Goals as goal

pub returns-in_err-named : goal.returns-in_err-named
returns-in_err-named c = rw c.from_residual-in_err-named.ensures
    (no_named c.args.arguments.now c.in_ok-argument.after.now c.in_ok-argument.argument.now c.as_bytes.result.now c.in_ok-body.body.now
    c.in-Some.name.now c.in-Some.value.now c.in_ok-argument.ensures.cases.0 c.as_bytes.ensures.value c.in_ok-body.ensures
    c.in-Some.ensures.0 c.in-Some.ensures.1 c.in_err-named.ensures)
