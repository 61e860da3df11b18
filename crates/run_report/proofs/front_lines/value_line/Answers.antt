use Rattle.run_report.proofs.Fronts.{no_value}
use Rattle.run_report.proofs.front_lines.value_line.Goals as goal

pub returns-in_err-signed : goal.returns-in_err-signed
returns-in_err-signed c = rw c.from_residual-in_err-signed.ensures
    (no_value c.args.bytes.now c.in_ok-front.front.now c.in_ok-front.after.now c.in_ok-front.ensures.0 c.in_ok-front.ensures.1 c.in_err-signed.ensures)
