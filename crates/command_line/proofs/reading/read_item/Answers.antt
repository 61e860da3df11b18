use Rattle.std.proofs.Common.{◌∙◌, ap, sym, List, ℕ, ◌∷◌}
use Rattle.command_line.specs.Arguments.{arguments_of}
use Rattle.command_line.proofs.Turns.{plain_taken, no_option, option_refused, option_taken}
use Rattle.command_line.proofs.reading.read_item.Goals as goal

pub returns-in_default : goal.returns-in_default
returns-in_default c =
    plain_taken c.args.kind c.args.numbers c.in_ok-more.more (arguments_of c.args.arguments.now) (arguments_of c.in_ok-argument.after.now)
    c.as_bytes-in_default.result.now
    (ap arguments_of c.in_ok-argument.ensures.cases.0
    ∙ ap (λ (b : List ℕ). b ∷ arguments_of c.in_ok-argument.after.now) (sym c.as_bytes-in_default.ensures.value))
    c.in_ok-more.ensures

pub returns-in_err-setting : goal.returns-in_err-setting
returns-in_err-setting c = rw c.from_residual-in_err-setting.ensures
    (no_option c.args.kind c.args.numbers (arguments_of c.args.arguments.now) (arguments_of c.in_ok-argument.after.now)
    c.as_bytes.result.now c.in-Some.field-0.now
    (ap arguments_of c.in_ok-argument.ensures.cases.0
    ∙ ap (λ (b : List ℕ). b ∷ arguments_of c.in_ok-argument.after.now) (sym c.as_bytes.ensures.value))
    c.in-Some.ensures c.in_err-setting.ensures)

pub returns-in_err-more-2 : goal.returns-in_err-more-2
returns-in_err-more-2 c = rw c.from_residual-in_err-more-2.ensures
    (option_refused c.args.kind c.args.numbers (arguments_of c.args.arguments.now) (arguments_of c.in_ok-argument.after.now)
    (arguments_of c.in_ok-setting.after.now) c.as_bytes.result.now c.in-Some.field-0.now c.in_ok-setting.value.now c.in_ok-setting.setting
    (ap arguments_of c.in_ok-argument.ensures.cases.0
    ∙ ap (λ (b : List ℕ). b ∷ arguments_of c.in_ok-argument.after.now) (sym c.as_bytes.ensures.value))
    c.in-Some.ensures c.in_ok-setting.ensures c.in_err-more-2.ensures)

pub returns : goal.returns
returns c =
    option_taken c.args.kind c.args.numbers c.in_ok-more-2.more (arguments_of c.args.arguments.now) (arguments_of c.in_ok-setting.after.now)
    c.in_ok-setting.value.now c.in_ok-setting.setting c.in_ok-setting.ensures c.in_ok-more-2.ensures
