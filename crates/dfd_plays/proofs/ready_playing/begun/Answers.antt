use Rattle.std.proofs.Common.{arith, refl}
use Rattle.command_line.proofs.Commands.{few_steps}
use Rattle.command_line.specs.declared.setting.Setting.TheVariants.{Arena, Workers, Steps}
use Rattle.dfd_plays.proofs.ready_playing.begun.Goals as goal

pub new-requires-clause-workers : goal.new-requires-clause-workers
new-requires-clause-workers c = ((c.requires.ranges.numbers Workers).0, (c.requires.ranges.numbers Workers).1)

pub new-requires-clause-limit : goal.new-requires-clause-limit
new-requires-clause-limit c =
    let range = c.requires.ranges.numbers Steps in let few = few_steps c.args.command.now.kind in
    let most = range.1 in (range.0, omega (arith, most, few))

pub unreachable-requires : goal.unreachable-requires
unreachable-requires c =
    let few = (c.requires.ranges.numbers Arena).1 in
    let asked = c.in_ok-code.ensures.pool.1 in
    let more = c.in_default.ensures.none.0 refl in omega (arith, few, asked, more)
