use Rattle.std.proofs.Common.{◌+◌, ◌∙◌, length, ap}
use Rattle.par_tree.specs.View.{body_tree}
use Rattle.accepted_source.specs.Sizes.{body_size}
use Rattle.node_table.specs.Shown.{nodes_shown, ret_shown}
use Rattle.frame_code.specs.Scopes.{functions_in, functions_of, names_of_scope}
use Rattle.frame_code.proofs.Gathering.{func_made}
use Rattle.frame_code.proofs.functions.lower_function.Goals as goal

pub returns-clause-made : goal.returns-clause-made
returns-clause-made c =
    let scope = c.in_ok-scope.scope in
    func_made (functions_in c.args.functions.now) c.args.func.now (nodes_shown c.args.nodes.items) (nodes_shown c.in_ok-nodes.nodes.items) (functions_of scope) (names_of_scope scope) c.count-slots.result c.deref.result.now c.deref-2.result.now c.in_ok-params.params.items c.in_ok-nodes.body.items (ret_shown c.in_ok-ret.ret)
    c.in_ok-scope.ensures.0 c.in_ok-scope.ensures.1 c.deref.ensures.value c.deref-2.ensures.value c.count-slots.ensures c.in_ok-params.ensures c.in_ok-ret.ensures c.in_ok-nodes.ensures.table

pub returns-clause-count : goal.returns-clause-count
returns-clause-count c = c.in_ok-nodes.ensures.count ∙ ap (λ bs. length (nodes_shown c.args.nodes.items) + body_size (body_tree bs)) c.deref-2.ensures.value
