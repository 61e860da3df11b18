use Rattle.std.proofs.Common.{sym}
use Rattle.command_line.proofs.Fits.{not_wanted, told_twice, not_told, groups_told}
use Rattle.command_line.proofs.numbers.Numbers.more_groups.Goals as goal

pub returns-then-not-wants_groups : goal.returns-then-not-wants_groups
returns-then-not-wants_groups c = not_wanted c.args.kind c.args.self c.args.argument.now (sym c.if-not-wants_groups.ensures)

pub returns-then-is_some : goal.returns-then-is_some
returns-then-is_some c = told_twice c.args.kind c.args.self c.args.argument.now (sym c.if-is_some.ensures)

pub returns-in_err-groups : goal.returns-in_err-groups
returns-in_err-groups c = rw c.from_residual.ensures
    (not_told c.args.kind c.args.self c.args.argument.now c.in_err-groups.ensures)

pub returns : goal.returns
returns c =
    groups_told c.args.kind c.args.self c.args.argument.now c.in_ok-groups.groups (sym c.if-not-wants_groups.ensures) (sym c.if-is_some.ensures)
    c.in_ok-groups.ensures
