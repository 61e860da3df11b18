use Rattle.std.proofs.Common.{arith}
use Rattle.run_report.proofs.Fronts.{no_kind, no_small_line}
use Rattle.run_report.proofs.finish_reading.read_finish.Goals as goal

pub returns-in_err-kind : goal.returns-in_err-kind
returns-in_err-kind c = rw c.from_residual-in_err-kind.ensures
    (no_kind c.args.line.now c.in_ok-fault.fault.now c.in_ok-word.word.now c.in_ok-word.rest.now
    c.in_ok-fault.ensures c.in_ok-word.ensures.0 c.in_ok-word.ensures.1 c.in_err-kind.ensures)

pub returns-then-number-from : goal.returns-then-number-from
returns-then-number-from c =
    no_small_line c.args.line.now c.in_ok-fault.fault.now c.in_ok-word.word.now c.in_ok-word.rest.now
    c.in_ok-fault.ensures c.in_ok-word.ensures.0 c.in_ok-word.ensures.1
    c.in_ok-digits.digits.now c.in_ok-number.number c.in_ok-digits.ensures c.in_ok-number.ensures.0 c.in_ok-number.ensures.1
    (omega (arith, c.if-number-from.true))
