use Rattle.std.proofs.Common.{◌≡◌, refl}
use Rattle.node_table.specs.Shown.{nodes_shown}
use Rattle.node_table.proofs.Lists.{continues_end}
use Rattle.node_table.proofs.copies.copy_nodes.Goals as goal

pub returns : goal.returns
returns c = continues_end (λ cs ys. nodes_shown cs ≡ nodes_shown ys) c.args.nodes.now c.loop-node.found.items c.loop-node.node-index c.loop-node-test.false c.loop-node.invariant refl
