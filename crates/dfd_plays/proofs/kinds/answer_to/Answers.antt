use Rattle.command_line.specs.declared.setting.Setting.TheVariants.{Quota}
use Rattle.dfd_plays.proofs.kinds.answer_to.Goals as goal

pub peak-requires : goal.peak-requires
peak-requires c = c.requires.ranges.numbers Quota
