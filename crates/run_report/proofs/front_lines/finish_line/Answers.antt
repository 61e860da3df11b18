use Rattle.run_report.proofs.Fronts.{no_finish}
use Rattle.run_report.proofs.front_lines.finish_line.Goals as goal

pub returns-in_err-read_finish : goal.returns-in_err-read_finish
returns-in_err-read_finish c = rw c.from_residual-in_err-read_finish.ensures
    (no_finish c.args.bytes.now c.in_ok-front.front.now c.in_ok-front.after.now c.in_ok-front.ensures.0 c.in_ok-front.ensures.1 c.in_err-read_finish.ensures)
