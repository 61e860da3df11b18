use Rattle.std.proofs.Common.{◌≡◌, refl}
use Rattle.node_table.specs.Shown.{funcs_shown}
use Rattle.node_table.proofs.Lists.{continues_end}
use Rattle.node_table.proofs.copies.copy_functions.Goals as goal

pub returns : goal.returns
returns c = continues_end (λ cs ys. funcs_shown cs ≡ funcs_shown ys) c.args.funcs.now c.loop-func.found.items c.loop-func.func-index c.loop-func-test.false c.loop-func.invariant refl
