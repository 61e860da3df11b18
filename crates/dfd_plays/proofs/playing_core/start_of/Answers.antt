use Rattle.std.proofs.Common.{inl, inr, ap, ◌∙◌, arith, Err}
use Rattle.std.proofs.lemmas.Bool.{false≢true}
use Rattle.command_line.specs.declared.setting.Setting.TheVariants.{Quota, Arena}
use Rattle.dfd_plays.proofs.Peaks.{quota_of_range}
use Rattle.dfd_plays.proofs.playing_core.start_of.Goals as goal

pub unreachable-requires : goal.unreachable-requires
unreachable-requires c = false≢true (c.in_default.ensures.some.1 (quota_of_range c.args.command.now.kind c.args.command.now.k (c.requires.ranges.numbers Quota)))

pub unreachable-requires-in-Err-NotWhole : goal.unreachable-requires-in-Err-NotWhole
unreachable-requires-in-Err-NotWhole c =
    let range = c.requires.ranges.numbers Arena in
    elim (c.new-2.ensures.not_whole.0 (c.in-Err-NotWhole.is ∙ ap Err c.in-Err-NotWhole.field-0-is))
    [ inl part ↦ part range.2 | inr none ↦ let some = range.0 in omega (arith, some, none) ]

pub unreachable-requires-in-Err-TooLarge : goal.unreachable-requires-in-Err-TooLarge
unreachable-requires-in-Err-TooLarge c =
    let few = (c.requires.ranges.numbers Arena).1 in
    let many = (c.new-2.ensures.too_large.0 (c.in-Err-TooLarge.is ∙ ap Err c.in-Err-TooLarge.field-0-is)).1 in
    omega (arith, few, many)
