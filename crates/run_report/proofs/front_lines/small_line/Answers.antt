use Rattle.std.proofs.Common.{arith}
use Rattle.run_report.proofs.Fronts.{no_counted_large}
use Rattle.run_report.proofs.front_lines.small_line.Goals as goal

pub returns-then-number-from : goal.returns-then-number-from
returns-then-number-from c =
    no_counted_large c.args.name.now c.args.bytes.now c.in_ok-number.number c.in_ok-number.after.now c.in_ok-number.ensures.0 c.in_ok-number.ensures.1
    (omega (arith, c.if-number-from.true))
