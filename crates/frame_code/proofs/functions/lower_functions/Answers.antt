use Rattle.std.proofs.Common.{◌+◌, ◌∙◌, [], ◌∷◌, drop, ap, subst, arith}
use Rattle.std.proofs.lemmas.List.{drop_all, map-append}
use Rattle.par_tree.specs.View.{func_tree}
use Rattle.block_check.specs.Shown.{funcs_tree}
use Rattle.frame_code.specs.Numbers.{func_names}
use Rattle.accepted_source.specs.Sizes.{functions_size}
use Rattle.frame_code.proofs.Having.{func_has, func_size}
use Rattle.node_table.specs.Shown.{nodes_shown, func_shown, funcs_shown}
use Rattle.node_table.proofs.Lists.{at_item}
use Rattle.frame_code.proofs.Gathering.{Gathered, gathered_next, gathered_end}
use Rattle.frame_code.proofs.functions.lower_functions.Goals as goal

pub loop-func-preserved : goal.loop-func-preserved
loop-func-preserved c =
    let fs = c.args.functions.now.funcs.now in
    let i = c.loop-func.func-index in
    let item = c.func-item.result in
    let now = nodes_shown c.loop-func.nodes.items in
    let codes = c.loop-func.codes.items in
    let size = func_size fs i item c.loop-func-test.true c.func-item.is in
    let kept = c.loop-func.invariant.1 in
    let made = c.in_ok-more.ensures.count in (
      gathered_next (func_names fs) now (nodes_shown c.in_ok-more.more.items) (funcs_tree fs) (funcs_tree (drop (i + 1) fs)) (func_tree item) (func_shown c.in_ok-more.code) (funcs_shown codes) (funcs_shown c.push.new.self.items)
          (at_item (λ gs. Gathered (func_names fs) now (funcs_tree fs) (funcs_tree gs) (funcs_shown codes)) fs i item c.loop-func-test.true c.func-item.is c.loop-func.invariant.0)
          c.in_ok-more.ensures.made.0 c.in_ok-more.ensures.made.1
          (ap funcs_shown c.in_ok-push.ensures.items ∙ map-append func_shown codes (c.in_ok-more.code ∷ [])),
      omega (arith, size, kept, made),
    )

pub returns-clause-made : goal.returns-clause-made
returns-clause-made c =
    let fs = c.args.functions.now.funcs.now in
    gathered_end (func_names fs) (nodes_shown c.loop-func.nodes.items) (funcs_tree fs) (funcs_shown c.loop-func.codes.items)
    (subst (λ gs. Gathered (func_names fs) (nodes_shown c.loop-func.nodes.items) (funcs_tree fs) (funcs_tree gs) (funcs_shown c.loop-func.codes.items)) (drop_all c.loop-func.func-index fs c.loop-func-test.false) c.loop-func.invariant.0)

pub returns-clause-count : goal.returns-clause-count
returns-clause-count c =
    let none = ap (λ gs. functions_size (funcs_tree gs)) (drop_all c.loop-func.func-index c.args.functions.now.funcs.now c.loop-func-test.false) in
    let kept = c.loop-func.invariant.1 in
    omega (arith, none, kept)

pub lower_function-requires-clause-named : goal.lower_function-requires-clause-named
lower_function-requires-clause-named c = func_has (func_names c.args.functions.now.funcs.now) c.args.functions.now.funcs.now c.loop-func.func-index c.func-item.result c.loop-func-test.true c.func-item.is c.requires.each

pub lower_function-requires-clause-room : goal.lower_function-requires-clause-room
lower_function-requires-clause-room c =
    let size = func_size c.args.functions.now.funcs.now c.loop-func.func-index c.func-item.result c.loop-func-test.true c.func-item.is in
    let kept = c.loop-func.invariant.1 in
    let room = c.requires.small in
    omega (arith, size, kept, room)
