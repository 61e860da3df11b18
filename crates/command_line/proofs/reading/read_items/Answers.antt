use Rattle.command_line.specs.Arguments.{arguments_of}
use Rattle.command_line.proofs.Commands.{no_items, one_read, some_words}
use Rattle.command_line.proofs.reading.read_items.Goals as goal

pub returns-in_err-more : goal.returns-in_err-more
returns-in_err-more c = rw c.from_residual.ensures
    (no_items c.args.kind (arguments_of c.args.arguments.now) (arguments_of c.items.rest.now) c.items.numbers c.items.invariant
    (some_words c.items.rest.now c.items-test.ensures) c.in_err-more.ensures)

pub items-preserved : goal.items-preserved
items-preserved c =
    one_read c.args.kind (arguments_of c.args.arguments.now) (arguments_of c.items.rest.now) (arguments_of c.in_ok-more.after.now) c.items.numbers
    c.in_ok-more.more c.items.invariant c.in_ok-more.ensures
