use Rattle.std.proofs.Common.{◌+◌, Option, Some, Ok, refl, ap, subst, arith}
use Rattle.depth_first_list.specs.QuotaWords.{quota_words}
use Rattle.par_tree.specs.Tree.{let_stmt, assign_stmt, put_stmt, alloc_stmt, free_stmt, if_stmt, while_stmt, print_stmt, par_stmt, split_stmt}
use Rattle.node_table.specs.Names.{slot_names}
use Rattle.node_table.specs.Table.{Table, Kind, call_node, let_node, assign_node, put_node, alloc_node, free_node, if_node, while_node, print_node, both_node, split_node}
use Rattle.node_table.specs.Programs.{function_names}
use Rattle.node_table.specs.Shown.{kind_shown, node_shown, expr_shown, target_shown, args_shown}
use Rattle.node_table.specs.Codes.{code_shown}
use Rattle.thread_run.specs.Called.{IsNoCall}
use Rattle.thread_stack.specs.Lists.{numbers_of}
use Rattle.thread_stack.specs.Measure.{list_cost, node_cost}
use Rattle.thread_stack.specs.declared.list_of.ListOf.TheVariants.{Then, Other, Inside}
use Rattle.thread_run.proofs.Which.{of_let, of_assign, of_put, of_alloc, of_free, of_if, of_while, of_print, of_both, of_split}
use Rattle.thread_run.proofs.KnowingSteps.{is_stmt, is_kind, runs_on, let_within, assign_within, put_within, alloc_none, free_has, covered, can_cut}
use Rattle.thread_run.proofs.Arms.{kind_there, known, then_list, other_list, round_list, inside_list, loop_list, par_node, split_at, quiet_cost, covers_at, loop_cost, result_cost, if_covers, round_covers, inside_covers}
use Rattle.thread_run.proofs.statements.statement.Goals as goal

pub set-requires-clause-going : goal.set-requires-clause-going
set-requires-clause-going c = runs_on (code_shown c.args.code.now) (quota_words c.args.k) c.args.number c.args.state.now (node_shown c.args.node.now) c.requires.meant c.requires.there

pub set-requires-clause-within : goal.set-requires-clause-within
set-requires-clause-within c = let_within (code_shown c.args.code.now) (quota_words c.args.k) c.args.number c.args.state.now (node_shown c.args.node.now) c.requires.meant c.requires.there c.in-Let.name (expr_shown c.in-Let.value) (ap kind_shown c.in-Let.is)

pub set-requires-in-Assign-clause-going : goal.set-requires-in-Assign-clause-going
set-requires-in-Assign-clause-going c = runs_on (code_shown c.args.code.now) (quota_words c.args.k) c.args.number c.args.state.now (node_shown c.args.node.now) c.requires.meant c.requires.there

pub set-requires-in-Assign-clause-within : goal.set-requires-in-Assign-clause-within
set-requires-in-Assign-clause-within c = assign_within (code_shown c.args.code.now) (quota_words c.args.k) c.args.number c.args.state.now (node_shown c.args.node.now) c.requires.meant c.requires.there c.in-Assign.name (expr_shown c.in-Assign.value) (ap kind_shown c.in-Assign.is)

pub put-requires-clause-going : goal.put-requires-clause-going
put-requires-clause-going c = runs_on (code_shown c.args.code.now) (quota_words c.args.k) c.args.number c.args.state.now (node_shown c.args.node.now) c.requires.meant c.requires.there

pub put-requires-clause-within : goal.put-requires-clause-within
put-requires-clause-within c = put_within (code_shown c.args.code.now) (quota_words c.args.k) c.args.number c.args.state.now (node_shown c.args.node.now) c.requires.meant c.requires.there c.in-Put.block (expr_shown c.in-Put.index) (expr_shown c.in-Put.value) (ap kind_shown c.in-Put.is)

pub allocate-requires-clause-going : goal.allocate-requires-clause-going
allocate-requires-clause-going c = runs_on (code_shown c.args.code.now) (quota_words c.args.k) c.args.number c.args.state.now (node_shown c.args.node.now) c.requires.meant c.requires.there

pub allocate-requires-clause-none : goal.allocate-requires-clause-none
allocate-requires-clause-none c = alloc_none (code_shown c.args.code.now) (quota_words c.args.k) c.args.number c.args.state.now (node_shown c.args.node.now) c.requires.meant c.requires.there c.in-Alloc.name (expr_shown c.in-Alloc.size) (ap kind_shown c.in-Alloc.is)

pub free-requires-clause-going : goal.free-requires-clause-going
free-requires-clause-going c = runs_on (code_shown c.args.code.now) (quota_words c.args.k) c.args.number c.args.state.now (node_shown c.args.node.now) c.requires.meant c.requires.there

pub free-requires-clause-has : goal.free-requires-clause-has
free-requires-clause-has c = free_has (code_shown c.args.code.now) (quota_words c.args.k) c.args.number c.args.state.now (node_shown c.args.node.now) c.requires.meant c.requires.there c.in-Free.name (ap kind_shown c.in-Free.is)

pub choose-requires : goal.choose-requires
choose-requires c = runs_on (code_shown c.args.code.now) (quota_words c.args.k) c.args.number c.args.state.now (node_shown c.args.node.now) c.requires.meant c.requires.there

pub repeat-requires : goal.repeat-requires
repeat-requires c = runs_on (code_shown c.args.code.now) (quota_words c.args.k) c.args.number c.args.state.now (node_shown c.args.node.now) c.requires.meant c.requires.there

pub print-requires : goal.print-requires
print-requires c = runs_on (code_shown c.args.code.now) (quota_words c.args.k) c.args.number c.args.state.now (node_shown c.args.node.now) c.requires.meant c.requires.there

pub split-requires-clause-going : goal.split-requires-clause-going
split-requires-clause-going c = runs_on (code_shown c.args.code.now) (quota_words c.args.k) c.args.number c.args.state.now (node_shown c.args.node.now) c.requires.meant c.requires.there

pub split-requires-clause-can : goal.split-requires-clause-can
split-requires-clause-can c = can_cut (code_shown c.args.code.now) (quota_words c.args.k) c.args.number c.args.state.now (node_shown c.args.node.now) c.requires.meant c.requires.there c.in-Split.block (expr_shown c.in-Split.at) c.in-Split.left c.in-Split.right c.in-Split.body.items (ap kind_shown c.in-Split.is)

pub returns-in-Let-clause-meaning : goal.returns-in-Let-clause-meaning
returns-in-Let-clause-meaning c = λ setting g line stmt node.
    let t : Table = (code_shown c.args.code.now) in
    let names = slot_names g in
    let stands = is_stmt setting.program t names c.args.number line stmt (node_shown c.args.node.now) node c.requires.there in
    let i : Kind = (let_node c.in-Let.name (expr_shown c.in-Let.value)) in
    let h = of_let t.nodes (function_names setting.program) names stmt (c.args.number + 1) c.in-Let.name (expr_shown c.in-Let.value) (is_kind setting.program t names c.args.number line stmt (node_shown c.args.node.now) i node c.requires.there (ap kind_shown c.in-Let.is)) in
    known t (quota_words c.args.k) setting g c.args.state.now c.set.new.state (Ok c.set.result) line c.args.node.now.line stmt (let_stmt h.name h.expr) stands.1 h.is
    (c.set.ensures.meaning t (quota_words c.args.k) setting g h.name h.expr h.slot h.read)

pub returns-in-Assign-clause-meaning : goal.returns-in-Assign-clause-meaning
returns-in-Assign-clause-meaning c = λ setting g line stmt node.
    let t : Table = (code_shown c.args.code.now) in
    let names = slot_names g in
    let stands = is_stmt setting.program t names c.args.number line stmt (node_shown c.args.node.now) node c.requires.there in
    let i : Kind = (assign_node c.in-Assign.name (expr_shown c.in-Assign.value)) in
    let h = of_assign t.nodes (function_names setting.program) names stmt (c.args.number + 1) c.in-Assign.name (expr_shown c.in-Assign.value) (is_kind setting.program t names c.args.number line stmt (node_shown c.args.node.now) i node c.requires.there (ap kind_shown c.in-Assign.is)) in
    known t (quota_words c.args.k) setting g c.args.state.now c.set-in-Assign.new.state (Ok c.set-in-Assign.result) line c.args.node.now.line stmt (assign_stmt h.name h.expr) stands.1 h.is
    (c.set-in-Assign.ensures.meaning t (quota_words c.args.k) setting g h.name h.expr h.slot h.read)

pub returns-in-Put-clause-meaning : goal.returns-in-Put-clause-meaning
returns-in-Put-clause-meaning c = λ setting g line stmt node.
    let t : Table = (code_shown c.args.code.now) in
    let names = slot_names g in
    let stands = is_stmt setting.program t names c.args.number line stmt (node_shown c.args.node.now) node c.requires.there in
    let i : Kind = (put_node c.in-Put.block (expr_shown c.in-Put.index) (expr_shown c.in-Put.value)) in
    let h = of_put t.nodes (function_names setting.program) names stmt (c.args.number + 1) c.in-Put.block (expr_shown c.in-Put.index) (expr_shown c.in-Put.value) (is_kind setting.program t names c.args.number line stmt (node_shown c.args.node.now) i node c.requires.there (ap kind_shown c.in-Put.is)) in
    known t (quota_words c.args.k) setting g c.args.state.now c.put.new.state (Ok c.put.result) line c.args.node.now.line stmt (put_stmt h.name h.index h.expr) stands.1 h.is
    (c.put.ensures.meaning t (quota_words c.args.k) setting g h.name h.index h.expr h.slot h.read_index h.read)

pub returns-in-Alloc-clause-meaning : goal.returns-in-Alloc-clause-meaning
returns-in-Alloc-clause-meaning c = λ setting g line stmt node.
    let t : Table = (code_shown c.args.code.now) in
    let names = slot_names g in
    let stands = is_stmt setting.program t names c.args.number line stmt (node_shown c.args.node.now) node c.requires.there in
    let i : Kind = (alloc_node c.in-Alloc.name (expr_shown c.in-Alloc.size)) in
    let h = of_alloc t.nodes (function_names setting.program) names stmt (c.args.number + 1) c.in-Alloc.name (expr_shown c.in-Alloc.size) (is_kind setting.program t names c.args.number line stmt (node_shown c.args.node.now) i node c.requires.there (ap kind_shown c.in-Alloc.is)) in
    known t (quota_words c.args.k) setting g c.args.state.now c.args.state.now c.allocate.result line c.args.node.now.line stmt (alloc_stmt h.name h.expr) stands.1 h.is
    (c.allocate.ensures.meaning t setting g h.name h.expr h.slot h.read)

pub returns-in-Free-clause-meaning : goal.returns-in-Free-clause-meaning
returns-in-Free-clause-meaning c = λ setting g line stmt node.
    let t : Table = (code_shown c.args.code.now) in
    let names = slot_names g in
    let stands = is_stmt setting.program t names c.args.number line stmt (node_shown c.args.node.now) node c.requires.there in
    let i : Kind = (free_node c.in-Free.name) in
    let h = of_free t.nodes (function_names setting.program) names stmt (c.args.number + 1) c.in-Free.name (is_kind setting.program t names c.args.number line stmt (node_shown c.args.node.now) i node c.requires.there (ap kind_shown c.in-Free.is)) in
    known t (quota_words c.args.k) setting g c.args.state.now c.args.state.now (Ok c.free.result) line c.args.node.now.line stmt (free_stmt h.name) stands.1 h.is
    (c.free.ensures.meaning t (quota_words c.args.k) setting g h.name h.slot)

pub returns-in-If-clause-meaning : goal.returns-in-If-clause-meaning
returns-in-If-clause-meaning c = λ setting g line stmt node.
    let t : Table = (code_shown c.args.code.now) in
    let names = slot_names g in
    let stands = is_stmt setting.program t names c.args.number line stmt (node_shown c.args.node.now) node c.requires.there in
    let i : Kind = (if_node (expr_shown c.in-If.cond) c.in-If.then.items c.in-If.other.items) in
    let h = of_if t.nodes (function_names setting.program) names stmt (c.args.number + 1) (expr_shown c.in-If.cond) c.in-If.then.items c.in-If.other.items (is_kind setting.program t names c.args.number line stmt (node_shown c.args.node.now) i node c.requires.there (ap kind_shown c.in-If.is)) in
    let there = kind_there t c.args.number (node_shown c.args.node.now) i c.requires.there (ap kind_shown c.in-If.is) in
    known t (quota_words c.args.k) setting g c.args.state.now c.args.state.now (Ok c.choose.result) line c.args.node.now.line stmt (if_stmt h.expr h.first h.second) stands.1 h.is
    (c.choose.ensures.meaning (quota_words c.args.k) setting g h.expr h.first h.second h.read
    (then_list setting.program t names c.args.number (expr_shown c.in-If.cond) c.in-If.then.items c.in-If.other.items h.first there h.firsts)
    (other_list setting.program t names c.args.number (expr_shown c.in-If.cond) c.in-If.then.items c.in-If.other.items h.second there h.seconds))

pub returns-in-While-clause-meaning : goal.returns-in-While-clause-meaning
returns-in-While-clause-meaning c = λ setting g line stmt node.
    let t : Table = (code_shown c.args.code.now) in
    let names = slot_names g in
    let stands = is_stmt setting.program t names c.args.number line stmt (node_shown c.args.node.now) node c.requires.there in
    let i : Kind = (while_node (expr_shown c.in-While.cond) c.in-While.body.items) in
    let h = of_while t.nodes (function_names setting.program) names stmt (c.args.number + 1) (expr_shown c.in-While.cond) c.in-While.body.items (is_kind setting.program t names c.args.number line stmt (node_shown c.args.node.now) i node c.requires.there (ap kind_shown c.in-While.is)) in
    let there = kind_there t c.args.number (node_shown c.args.node.now) i c.requires.there (ap kind_shown c.in-While.is) in
    known t (quota_words c.args.k) setting g c.args.state.now c.repeat.new.state (Ok c.repeat.result) line c.args.node.now.line stmt (while_stmt h.expr h.body) stands.1 h.is
    (c.repeat.ensures.meaning (quota_words c.args.k) setting g h.expr h.body h.read
    (round_list setting.program t names c.args.number (expr_shown c.in-While.cond) c.in-While.body.items h.body there h.rounds)
    (loop_list setting.program t names c.args.number (node_shown c.args.node.now) stmt h.expr h.body c.requires.there h.is stands.0))

pub returns-in-Print-clause-meaning : goal.returns-in-Print-clause-meaning
returns-in-Print-clause-meaning c = λ setting g line stmt node.
    let t : Table = (code_shown c.args.code.now) in
    let names = slot_names g in
    let stands = is_stmt setting.program t names c.args.number line stmt (node_shown c.args.node.now) node c.requires.there in
    let i : Kind = (print_node (expr_shown c.in-Print.value)) in
    let h = of_print t.nodes (function_names setting.program) names stmt (c.args.number + 1) (expr_shown c.in-Print.value) (is_kind setting.program t names c.args.number line stmt (node_shown c.args.node.now) i node c.requires.there (ap kind_shown c.in-Print.is)) in
    known t (quota_words c.args.k) setting g c.args.state.now c.args.state.now (Ok c.print.result) line c.args.node.now.line stmt (print_stmt h.expr) stands.1 h.is
    (c.print.ensures.meaning t (quota_words c.args.k) setting g h.expr h.read)

pub returns-in-Both-clause-meaning : goal.returns-in-Both-clause-meaning
returns-in-Both-clause-meaning c = λ setting g line stmt node.
    let t : Table = (code_shown c.args.code.now) in
    let names = slot_names g in
    let stands = is_stmt setting.program t names c.args.number line stmt (node_shown c.args.node.now) node c.requires.there in
    let i : Kind = (both_node c.in-Both.left.items c.in-Both.right.items c.in-Both.left_blocks.items c.in-Both.left_assigned.items) in
    let h = of_both t.nodes (function_names setting.program) names stmt (c.args.number + 1) c.in-Both.left.items c.in-Both.right.items c.in-Both.left_blocks.items c.in-Both.left_assigned.items (is_kind setting.program t names c.args.number line stmt (node_shown c.args.node.now) i node c.requires.there (ap kind_shown c.in-Both.is)) in
    let there = kind_there t c.args.number (node_shown c.args.node.now) i c.requires.there (ap kind_shown c.in-Both.is) in
    known t (quota_words c.args.k) setting g c.args.state.now c.args.state.now (Ok c.both.result) line c.args.node.now.line stmt (par_stmt h.first h.second) stands.1 h.is
    (c.both.ensures.meaning t (quota_words c.args.k) setting g h.first h.second
    (par_node setting.program t names c.args.number c.in-Both.left.items c.in-Both.right.items c.in-Both.left_blocks.items c.in-Both.left_assigned.items stmt there h))

pub returns-in-Split-clause-meaning : goal.returns-in-Split-clause-meaning
returns-in-Split-clause-meaning c = λ setting g line stmt node.
    let t : Table = (code_shown c.args.code.now) in
    let names = slot_names g in
    let stands = is_stmt setting.program t names c.args.number line stmt (node_shown c.args.node.now) node c.requires.there in
    let i : Kind = (split_node c.in-Split.block (expr_shown c.in-Split.at) c.in-Split.left c.in-Split.right c.in-Split.body.items) in
    let h = of_split t.nodes (function_names setting.program) names stmt (c.args.number + 1) c.in-Split.block (expr_shown c.in-Split.at) c.in-Split.left c.in-Split.right c.in-Split.body.items (is_kind setting.program t names c.args.number line stmt (node_shown c.args.node.now) i node c.requires.there (ap kind_shown c.in-Split.is)) in
    let there = kind_there t c.args.number (node_shown c.args.node.now) i c.requires.there (ap kind_shown c.in-Split.is) in
    known t (quota_words c.args.k) setting g c.args.state.now c.split.new.state c.split.result line c.args.node.now.line stmt (split_stmt h.block h.expr h.left h.right h.inside) stands.1 h.is
    (c.split.ensures.meaning (quota_words c.args.k) setting g h.block h.left h.right h.expr h.inside h.slot h.left_slot h.right_slot h.read
    (split_at setting.program t names c.args.number c.in-Split.block (expr_shown c.in-Split.at) c.in-Split.left c.in-Split.right c.in-Split.body.items stmt there h)
    (inside_list setting.program t names c.args.number c.in-Split.block (expr_shown c.in-Split.at) c.in-Split.left c.in-Split.right c.in-Split.body.items h.inside there h.insides))

pub returns-in-Let-clause-cost : goal.returns-in-Let-clause-cost
returns-in-Let-clause-cost c =
    let t : Table = (code_shown c.args.code.now) in
    let covers = covered (code_shown c.args.code.now) (quota_words c.args.k) c.args.number c.args.state.now (node_shown c.args.node.now) c.requires.meant c.requires.there in
    let i : Kind = (let_node c.in-Let.name (expr_shown c.in-Let.value)) in
    let at = covers_at t c.args.number (node_shown c.args.node.now) (Some i) (kind_there t c.args.number (node_shown c.args.node.now) i c.requires.there (ap kind_shown c.in-Let.is)) c.requires.there covers in
    quiet_cost t c.args.number c.args.state.now.turns c.set.new.state.turns c.set.result 0 c.set.ensures.turns (let none = c.set.ensures.cost t in omega (arith, none)) (omega (arith, at))

pub returns-in-Assign-clause-cost : goal.returns-in-Assign-clause-cost
returns-in-Assign-clause-cost c =
    let t : Table = (code_shown c.args.code.now) in
    let covers = covered (code_shown c.args.code.now) (quota_words c.args.k) c.args.number c.args.state.now (node_shown c.args.node.now) c.requires.meant c.requires.there in
    let i : Kind = (assign_node c.in-Assign.name (expr_shown c.in-Assign.value)) in
    let at = covers_at t c.args.number (node_shown c.args.node.now) (Some i) (kind_there t c.args.number (node_shown c.args.node.now) i c.requires.there (ap kind_shown c.in-Assign.is)) c.requires.there covers in
    quiet_cost t c.args.number c.args.state.now.turns c.set-in-Assign.new.state.turns c.set-in-Assign.result 0 c.set-in-Assign.ensures.turns (let none = c.set-in-Assign.ensures.cost t in omega (arith, none)) (omega (arith, at))

pub returns-in-Put-clause-cost : goal.returns-in-Put-clause-cost
returns-in-Put-clause-cost c =
    let t : Table = (code_shown c.args.code.now) in
    let covers = covered (code_shown c.args.code.now) (quota_words c.args.k) c.args.number c.args.state.now (node_shown c.args.node.now) c.requires.meant c.requires.there in
    let i : Kind = (put_node c.in-Put.block (expr_shown c.in-Put.index) (expr_shown c.in-Put.value)) in
    let at = covers_at t c.args.number (node_shown c.args.node.now) (Some i) (kind_there t c.args.number (node_shown c.args.node.now) i c.requires.there (ap kind_shown c.in-Put.is)) c.requires.there covers in
    quiet_cost t c.args.number c.args.state.now.turns c.put.new.state.turns c.put.result 0 c.put.ensures.turns (let none = c.put.ensures.cost t in omega (arith, none)) (omega (arith, at))

pub returns-in-Free-clause-cost : goal.returns-in-Free-clause-cost
returns-in-Free-clause-cost c =
    let t : Table = (code_shown c.args.code.now) in
    let covers = covered (code_shown c.args.code.now) (quota_words c.args.k) c.args.number c.args.state.now (node_shown c.args.node.now) c.requires.meant c.requires.there in
    let i : Kind = (free_node c.in-Free.name) in
    let at = covers_at t c.args.number (node_shown c.args.node.now) (Some i) (kind_there t c.args.number (node_shown c.args.node.now) i c.requires.there (ap kind_shown c.in-Free.is)) c.requires.there covers in
    quiet_cost t c.args.number c.args.state.now.turns c.args.state.now.turns c.free.result 0 refl (let none = c.free.ensures.cost t in omega (arith, none)) (omega (arith, at))

pub returns-in-Print-clause-cost : goal.returns-in-Print-clause-cost
returns-in-Print-clause-cost c =
    let t : Table = (code_shown c.args.code.now) in
    let covers = covered (code_shown c.args.code.now) (quota_words c.args.k) c.args.number c.args.state.now (node_shown c.args.node.now) c.requires.meant c.requires.there in
    let i : Kind = (print_node (expr_shown c.in-Print.value)) in
    let at = covers_at t c.args.number (node_shown c.args.node.now) (Some i) (kind_there t c.args.number (node_shown c.args.node.now) i c.requires.there (ap kind_shown c.in-Print.is)) c.requires.there covers in
    quiet_cost t c.args.number c.args.state.now.turns c.args.state.now.turns c.print.result 0 refl (let none = c.print.ensures.cost t in omega (arith, none)) (omega (arith, at))

pub returns-in-Both-clause-cost : goal.returns-in-Both-clause-cost
returns-in-Both-clause-cost c =
    let t : Table = (code_shown c.args.code.now) in
    let covers = covered (code_shown c.args.code.now) (quota_words c.args.k) c.args.number c.args.state.now (node_shown c.args.node.now) c.requires.meant c.requires.there in
    let i : Kind = (both_node c.in-Both.left.items c.in-Both.right.items c.in-Both.left_blocks.items c.in-Both.left_assigned.items) in
    let at = covers_at t c.args.number (node_shown c.args.node.now) (Some i) (kind_there t c.args.number (node_shown c.args.node.now) i c.requires.there (ap kind_shown c.in-Both.is)) c.requires.there covers in
    quiet_cost t c.args.number c.args.state.now.turns c.args.state.now.turns c.both.result 0 refl (let none = c.both.ensures.cost t in omega (arith, none)) (omega (arith, at))

pub returns-in-If-clause-cost : goal.returns-in-If-clause-cost
returns-in-If-clause-cost c =
    let t : Table = code_shown c.args.code.now in
    let covers = covered t (quota_words c.args.k) c.args.number c.args.state.now (node_shown c.args.node.now) c.requires.meant c.requires.there in
    let i : Kind = if_node (expr_shown c.in-If.cond) c.in-If.then.items c.in-If.other.items in
    let there = kind_there t c.args.number (node_shown c.args.node.now) i c.requires.there (ap kind_shown c.in-If.is) in
    let at = if_covers t c.args.number (expr_shown c.in-If.cond) c.in-If.then.items c.in-If.other.items there (covers_at t c.args.number (node_shown c.args.node.now) (Some i) there c.requires.there covers) in
    quiet_cost t c.args.number c.args.state.now.turns c.args.state.now.turns c.choose.result (list_cost (node_cost t) (numbers_of t (Then c.args.number)) + list_cost (node_cost t) (numbers_of t (Other c.args.number)))
    refl c.choose.ensures.cost at

pub returns-in-While-clause-cost : goal.returns-in-While-clause-cost
returns-in-While-clause-cost c =
    let t : Table = code_shown c.args.code.now in
    let covers = covered t (quota_words c.args.k) c.args.number c.args.state.now (node_shown c.args.node.now) c.requires.meant c.requires.there in
    let i : Kind = while_node (expr_shown c.in-While.cond) c.in-While.body.items in
    let there = kind_there t c.args.number (node_shown c.args.node.now) i c.requires.there (ap kind_shown c.in-While.is) in
    let at = round_covers t c.args.number (expr_shown c.in-While.cond) c.in-While.body.items there (covers_at t c.args.number (node_shown c.args.node.now) (Some i) there c.requires.there covers) in
    loop_cost t c.args.number c.args.state.now.turns c.repeat.new.state.turns c.repeat.result (node_shown c.args.node.now) c.requires.there at c.repeat.ensures.cost

pub returns-in-Alloc-clause-cost : goal.returns-in-Alloc-clause-cost
returns-in-Alloc-clause-cost c =
    let t : Table = code_shown c.args.code.now in
    let covers = covered t (quota_words c.args.k) c.args.number c.args.state.now (node_shown c.args.node.now) c.requires.meant c.requires.there in
    let i : Kind = alloc_node c.in-Alloc.name (expr_shown c.in-Alloc.size) in
    let at = covers_at t c.args.number (node_shown c.args.node.now) (Some i) (kind_there t c.args.number (node_shown c.args.node.now) i c.requires.there (ap kind_shown c.in-Alloc.is)) c.requires.there covers in
    result_cost t c.args.number c.args.state.now.turns c.args.state.now.turns c.allocate.result 2 refl (c.allocate.ensures.cost t) (omega (arith, at))

pub returns-in-Split-clause-cost : goal.returns-in-Split-clause-cost
returns-in-Split-clause-cost c =
    let t : Table = code_shown c.args.code.now in
    let covers = covered t (quota_words c.args.k) c.args.number c.args.state.now (node_shown c.args.node.now) c.requires.meant c.requires.there in
    let i : Kind = split_node c.in-Split.block (expr_shown c.in-Split.at) c.in-Split.left c.in-Split.right c.in-Split.body.items in
    let there = kind_there t c.args.number (node_shown c.args.node.now) i c.requires.there (ap kind_shown c.in-Split.is) in
    let at = inside_covers t c.args.number c.in-Split.block (expr_shown c.in-Split.at) c.in-Split.left c.in-Split.right c.in-Split.body.items there
    (covers_at t c.args.number (node_shown c.args.node.now) (Some i) there c.requires.there covers) in
    result_cost t c.args.number c.args.state.now.turns c.split.new.state.turns c.split.result (1 + list_cost (node_cost t) (numbers_of t (Inside c.args.number))) c.split.ensures.turns c.split.ensures.cost at

pub unreachable-requires : goal.unreachable-requires
unreachable-requires c =
    let i : Kind = call_node (target_shown c.in-Call.target) c.in-Call.func (args_shown c.in-Call.args.items) in
    subst (λ (o : Option Kind). IsNoCall o) (kind_there (code_shown c.args.code.now) c.args.number (node_shown c.args.node.now) i c.requires.there (ap kind_shown c.in-Call.is)) c.requires.no_call
