use Rattle.std.proofs.Common.{arith}
use Rattle.run_report.proofs.Digits.{no_minus, no_minus_zero, minus, plain_large}
use Rattle.run_report.proofs.numbers.signed.Goals as goal

pub returns-in_err-size : goal.returns-in_err-size
returns-in_err-size c = rw c.from_residual.ensures (no_minus c.args.digits.now c.in-Some.size.now c.in-Some.ensures c.in_err-size.ensures)

pub returns-then-size-eq0 : goal.returns-then-size-eq0
returns-then-size-eq0 c =
    no_minus_zero c.args.digits.now c.in-Some.size.now c.in_ok-size.size c.in-Some.ensures c.in_ok-size.ensures.0 c.if-size-eq0.true

pub returns-in-Some : goal.returns-in-Some
returns-in-Some c =
    minus c.args.digits.now c.in-Some.size.now c.in_ok-size.size c.checked_sub_unsigned.result c.in-Some.ensures c.in_ok-size.ensures.0
    c.if-size-eq0.false c.in_ok-size.ensures.1 c.checked_sub_unsigned.ensures

pub returns-then-size : goal.returns-then-size
returns-then-size c =
    plain_large c.args.digits.now c.in_ok-size-2.size c.in_default.ensures c.in_ok-size-2.ensures.0 c.in_ok-size-2.ensures.1 (omega (arith, c.if-size.true))
