use Rattle.std.proofs.Common.{◌≡◌}
use Rattle.node_table.specs.Shown.{nodes_shown}
use Rattle.node_table.proofs.Lists.{Continues}
use Rattle.node_table.proofs.copies.copy_nodes.Given as goal

abbrev pub invariant-loop-node : goal.invariant-loop-node
invariant-loop-node l = Continues (λ cs ys. nodes_shown cs ≡ nodes_shown ys) l.nodes l.found.items l.node-index
