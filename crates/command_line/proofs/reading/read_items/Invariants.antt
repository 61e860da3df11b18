use Rattle.std.proofs.Common.{length}
use Rattle.command_line.specs.Arguments.{arguments_of}
use Rattle.command_line.specs.Reading.{AreRead}
use Rattle.command_line.proofs.reading.read_items.Given as goal

abbrev pub invariant-items : goal.invariant-items
invariant-items l = AreRead l.kind (arguments_of l.arguments) (arguments_of l.rest) l.numbers

abbrev pub decreases-items : goal.decreases-items
decreases-items l = length l.rest
