use Rattle.std.proofs.Common.{◌≡◌, ◌∙◌, length, sym, ap, subst, arith}
use Rattle.std.proofs.lemmas.List.{length-map}
use Rattle.node_table.specs.Table.{Table}
use Rattle.node_table.specs.Programs.{IsAcceptedTable}
use Rattle.node_table.specs.Shown.{node_shown, nodes_shown, funcs_shown, table_shown}
use Rattle.node_table.proofs.node_table.NodeTable.copy.Goals as goal

pub invariant_of-result : goal.invariant_of-result
invariant_of-result c =
    let code = c.args.self.now in
    let nodes = c.in_ok-nodes.nodes in
    let funcs = c.in_ok-funcs.funcs in
    let same_nodes = c.in_ok-nodes.ensures ∙ ap nodes_shown c.deref.ensures.value in
    let same_funcs = c.in_ok-funcs.ensures ∙ ap funcs_shown c.deref-2.ensures.value in
    let same : table_shown code.nodes.items code.funcs.items code.main ≡ table_shown nodes.items funcs.items code.main
    = λ i. record { nodes = sym same_nodes i; funcs = sym same_funcs i; main = code.main } in
    let lengths = ap length same_nodes in
    let new = length-map nodes.items node_shown in
    let old = length-map code.nodes.items node_shown in
    let new_len = nodes.ok.0 in
    let old_len = code.nodes.ok.0 in
    let few = code.numbered in
    record {
      numbered = omega (arith, lengths, new, old, new_len, old_len, few);
      accepted = subst (λ (t : Table). IsAcceptedTable t) same code.accepted;
    }
