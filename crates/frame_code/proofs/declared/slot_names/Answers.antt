use Rattle.std.proofs.Common.{◌≡◌, ◌∙◌, [], refl, ap, subst, IfOk}
use Rattle.par_tree.specs.View.{params_tree, body_tree, func_tree}
use Rattle.par_tree.specs.Names.{declared_in, declared_in_body, param_names}
use Rattle.node_table.specs.Names.{with_names}
use Rattle.frame_code.specs.Scopes.{names_tree}
use Rattle.frame_code.proofs.Naming.{with_part}
use Rattle.frame_code.proofs.declared.slot_names.Goals as goal

pub returns : goal.returns
returns c =
    let f = c.args.func.now in
    let first =
    c.in_ok-names.ensures
    ∙ ap (λ ns. with_names (names_tree ns) (param_names (params_tree c.deref.result.now))) c.new.ensures.items
    ∙ ap (λ ps. with_names [] (param_names (params_tree ps))) c.deref.ensures.value in
    with_part [] (names_tree c.in_ok-names.names.items) (param_names (params_tree f.params.items)) (declared_in_body (body_tree f.body.items)) (declared_in (func_tree f)) c.with_list.result first refl
    (subst (λ bs. IfOk c.with_list.result (λ v. names_tree v.items ≡ with_names (names_tree c.in_ok-names.names.items) (declared_in_body (body_tree bs)))) c.deref-2.ensures.value c.with_list.ensures)
