use Rattle.std.proofs.Common.{◌++◌, ◌∙◌, ap, List, ℕ}
use Rattle.trail_text.proofs.Fronts.{no_stop, no_digits}
use Rattle.trail_text.proofs.numbers.number.Goals as goal

pub returns-in_err-digits : goal.returns-in_err-digits
returns-in_err-digits c = rw c.from_residual-in_err-digits.ensures
    (no_stop c.args.name.now c.args.bytes.now c.in_ok-after.after.now c.args.stop
    (c.in_ok-after.ensures ∙ ap (λ (n : List ℕ). n ++ c.in_ok-after.after.now) c.as_bytes.ensures.value) c.in_err-digits.ensures)

pub returns-in_err-natural : goal.returns-in_err-natural
returns-in_err-natural c = rw c.from_residual-in_err-natural.ensures
    (no_digits c.args.name.now c.args.bytes.now c.in_ok-after.after.now c.in_ok-digits.digits.now c.in_ok-digits.rest.now c.args.stop c.requires
    (c.in_ok-after.ensures ∙ ap (λ (n : List ℕ). n ++ c.in_ok-after.after.now) c.as_bytes.ensures.value)
    c.in_ok-digits.ensures.0 c.in_ok-digits.ensures.1 c.in_err-natural.ensures)
