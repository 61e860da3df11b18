use Rattle.std.proofs.Common.{◌∙◌, ap, sym}
use Rattle.std.specs.Option.{is_some}
use Rattle.command_line.proofs.Fits.{not_had, twice, not_given, one_more}
use Rattle.command_line.proofs.numbers.Numbers.more.Goals as goal

pub returns-then-not-has : goal.returns-then-not-has
returns-then-not-has c = not_had c.args.kind c.args.self c.args.setting c.args.value.now (sym c.if-not-has.ensures)

pub returns-then-is_some : goal.returns-then-is_some
returns-then-is_some c =
    twice c.args.kind c.args.self c.args.setting c.args.value.now (ap is_some (sym c.given.ensures) ∙ sym c.if-is_some.ensures)

pub returns-in_err-number : goal.returns-in_err-number
returns-in_err-number c = rw c.from_residual.ensures
    (not_given c.args.kind c.args.self c.args.setting c.args.value.now c.in_err-number.ensures)

pub returns : goal.returns
returns c =
    one_more c.args.kind c.args.self c.with.result c.args.setting c.args.value.now c.in_ok-number.number (sym c.if-not-has.ensures)
    (ap is_some (sym c.given.ensures) ∙ sym c.if-is_some.ensures) c.in_ok-number.ensures c.with.ensures.option c.with.ensures.groups
