use Rattle.std.proofs.Common.{◌++◌, ◌∙◌, ap, List, ℕ}
use Rattle.run_report.proofs.Fronts.{no_counted_cut, no_counted_number}
use Rattle.run_report.proofs.front_lines.counted_line.Goals as goal

pub returns-in_err-front : goal.returns-in_err-front
returns-in_err-front c = rw c.from_residual-in_err-front.ensures
    (no_counted_cut c.args.name.now c.args.bytes.now c.in_ok-digits.digits.now
    (c.in_ok-digits.ensures ∙ ap (λ (n : List ℕ). n ++ c.in_ok-digits.digits.now) c.as_bytes.ensures.value) c.in_err-front.ensures)

pub returns-in_err-natural : goal.returns-in_err-natural
returns-in_err-natural c = rw c.from_residual-in_err-natural.ensures
    (no_counted_number c.args.name.now c.args.bytes.now c.in_ok-digits.digits.now c.in_ok-front.front.now c.in_ok-front.after.now
    (c.in_ok-digits.ensures ∙ ap (λ (n : List ℕ). n ++ c.in_ok-digits.digits.now) c.as_bytes.ensures.value)
    c.in_ok-front.ensures.0 c.in_ok-front.ensures.1 c.in_err-natural.ensures)
