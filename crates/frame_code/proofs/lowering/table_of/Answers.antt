use Rattle.std.proofs.Common.{◌∙◌, arith, sym, ap, subst}
use Rattle.std.proofs.lemmas.List.{length-map}
use Rattle.par_tree.specs.Tree.{Name}
use Rattle.par_tree.specs.View.{func_tree, program_tree}
use Rattle.par_tree.specs.declared.program.Program.{Program}
use Rattle.block_check.specs.Checked.{program_of}
use Rattle.node_table.specs.Table.{Table}
use Rattle.node_table.specs.Names.{IsSlot}
use Rattle.node_table.specs.Programs.{IsTableOf}
use Rattle.node_table.specs.Shown.{node_shown, table_shown}
use Rattle.frame_code.specs.Numbers.{func_names}
use Rattle.frame_code.specs.Slotted.{Has}
use Rattle.frame_code.proofs.Accepted.{functions_can}
use Rattle.frame_code.proofs.Gathering.{table_made}
use Rattle.frame_code.proofs.lowering.table_of.Goals as goal

pub of-requires : goal.of-requires
of-requires c =
    let can = functions_can c.program.result.now c.deref.result.now c.deref.ensures.value c.program.ensures.of_text c.program.ensures.owns in
    let few = can.few in
    let same = length-map c.deref.result.now func_tree in
    omega (arith, few, same)

pub lower_functions-requires : goal.lower_functions-requires
lower_functions-requires c =
    functions_can c.program.result.now c.in_ok-functions.functions.funcs.now (c.in_ok-functions.ensures ∙ c.deref.ensures.value) c.program.ensures.of_text c.program.ensures.owns

pub number-main-requires : goal.number-main-requires
number-main-requires c =
    let fs = c.in_ok-functions.functions.funcs.now in
    let can = functions_can c.program.result.now fs (c.in_ok-functions.ensures ∙ c.deref.ensures.value) c.program.ensures.of_text c.program.ensures.owns in
    subst (λ (x : Name). Has (func_names fs) x) (sym c.as_slice.ensures) can.main

pub of-requires-2-clause-numbered : goal.of-requires-2-clause-numbered
of-requires-2-clause-numbered c =
    let fs = c.in_ok-functions.functions.funcs.now in
    let can = functions_can c.program.result.now fs (c.in_ok-functions.ensures ∙ c.deref.ensures.value) c.program.ensures.of_text c.program.ensures.owns in
    let small = can.small in
    let count = c.in_ok-nodes.ensures.count in
    let same = length-map c.in_ok-nodes.nodes.items node_shown in
    omega (arith, small, count, same)

pub of-requires-2-clause-accepted : goal.of-requires-2-clause-accepted
of-requires-2-clause-accepted c =
    let p = c.program.result.now in
    let fs = c.in_ok-functions.functions.funcs.now in
    let table : Table = table_shown c.in_ok-nodes.nodes.items c.in_ok-nodes.codes.items c.number-main.result in
    let main = subst (λ (x : Name). IsSlot (func_names fs) c.number-main.result x) c.as_slice.ensures c.number-main.ensures in
    ∣ (program_tree p, c.program.ensures.owns, table_made p fs table (c.in_ok-functions.ensures ∙ c.deref.ensures.value) c.in_ok-nodes.ensures.made main) ∣₁

pub returns : goal.returns
returns c =
    let p = program_of c.args.program.now in
    let fs = c.in_ok-functions.functions.funcs.now in
    let owned = ap (λ (q : Program). q.funcs.items) c.program.ensures.value in
    let table : Table = table_shown c.in_ok-nodes.nodes.items c.in_ok-nodes.codes.items c.number-main.result in
    let main = subst (λ (x : Name). IsSlot (func_names fs) c.number-main.result x) c.as_slice.ensures c.number-main.ensures in
    subst (λ (t : Table). IsTableOf (program_tree p) t) (sym c.of-2.ensures) (table_made p fs table (c.in_ok-functions.ensures ∙ c.deref.ensures.value ∙ owned) c.in_ok-nodes.ensures.made main)
