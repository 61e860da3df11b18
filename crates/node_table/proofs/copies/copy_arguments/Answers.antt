use Rattle.std.proofs.Common.{◌≡◌, refl}
use Rattle.node_table.specs.Shown.{args_shown}
use Rattle.node_table.proofs.Lists.{continues_end}
use Rattle.node_table.proofs.copies.copy_arguments.Goals as goal

pub returns : goal.returns
returns c = continues_end (λ cs ys. args_shown cs ≡ args_shown ys) c.args.args.now c.loop-arg.found.items c.loop-arg.arg-index c.loop-arg-test.false c.loop-arg.invariant refl
