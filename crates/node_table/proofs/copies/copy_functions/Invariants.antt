use Rattle.std.proofs.Common.{◌≡◌}
use Rattle.node_table.specs.Shown.{funcs_shown}
use Rattle.node_table.proofs.Lists.{Continues}
use Rattle.node_table.proofs.copies.copy_functions.Given as goal

abbrev pub invariant-loop-func : goal.invariant-loop-func
invariant-loop-func l = Continues (λ cs ys. funcs_shown cs ≡ funcs_shown ys) l.funcs l.found.items l.func-index
