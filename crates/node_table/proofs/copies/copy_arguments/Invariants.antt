use Rattle.std.proofs.Common.{◌≡◌}
use Rattle.node_table.specs.Shown.{args_shown}
use Rattle.node_table.proofs.Lists.{Continues}
use Rattle.node_table.proofs.copies.copy_arguments.Given as goal

abbrev pub invariant-loop-arg : goal.invariant-loop-arg
invariant-loop-arg l = Continues (λ cs ys. args_shown cs ≡ args_shown ys) l.args l.found.items l.arg-index
