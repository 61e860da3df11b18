use Rattle.trail_text.proofs.Tails.{no_periods, no_ahead, no_high}
use Rattle.trail_text.proofs.ending.read_end.Goals as goal

pub returns-in_err-periods : goal.returns-in_err-periods
returns-in_err-periods c = rw c.from_residual.ensures (no_periods c.args.bytes.now c.in_err-periods.ensures)

pub returns-in_err-ahead : goal.returns-in_err-ahead
returns-in_err-ahead c = rw c.from_residual-in_err-ahead.ensures
    (no_ahead c.args.bytes.now c.in_ok-periods.periods c.in_ok-periods.at_ahead.now c.in_ok-periods.ensures.0 c.in_ok-periods.ensures.1 c.in_err-ahead.ensures)

pub returns-in_err-high : goal.returns-in_err-high
returns-in_err-high c = rw c.from_residual-in_err-high.ensures
    (no_high c.args.bytes.now c.in_ok-periods.periods c.in_ok-periods.at_ahead.now c.in_ok-periods.ensures.0 c.in_ok-periods.ensures.1
    c.in_ok-ahead.ahead c.in_ok-ahead.at_high.now c.in_ok-ahead.ensures.0 c.in_ok-ahead.ensures.1 c.in_err-high.ensures)
