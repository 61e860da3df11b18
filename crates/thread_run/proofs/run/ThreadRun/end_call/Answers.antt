use Rattle.std.proofs.Common.{◌≡◌, ◌∙◌, ℕ, List, Option, Some, refl, sym, ap, subst}
use Rattle.std.specs.Prelude.{slice_get}
use Rattle.std.specs.Option.{option_map}
use Rattle.std.proofs.lemmas.Option.{slice_get-map}
use Rattle.par_tree.specs.Names.{param_names}
use Rattle.node_table.specs.Codes.{code_shown, nodes_of, funcs_of}
use Rattle.node_table.specs.Shown.{node_shown, kind_shown, func_shown, target_shown, args_shown}
use Rattle.node_table.specs.Reading.{AreSlots, AreArgs}
use Rattle.node_table.specs.Table.{Table, Kind, call_node}
use Rattle.node_table.specs.declared.node.Node.{Node}
use Rattle.node_table.specs.declared.func_code.FuncCode.{FuncCode}
use Rattle.thread_stack.specs.Lists.{kind_at}
use Rattle.thread_state.specs.Calls.{return_line}
use Rattle.thread_run.proofs.Arms.{kind_there}
use Rattle.thread_run.specs.declared.run.ThreadRun.{ThreadRun}
use Rattle.thread_run.proofs.Returning.{call_returns, call_faults}
use Rattle.thread_run.proofs.run.ThreadRun.end_call.Goals as goal

pub returns-in-Ok-clause-meaning : goal.returns-in-Ok-clause-meaning
returns-in-Ok-clause-meaning c = λ k setting gs f fs s of_table runs frame frames is.
    let t : Table = code_shown c.args.code.now in
    let to = target_shown c.in-Call.target in
    let from = args_shown c.in-Call.args.items in
    let i : Kind = call_node to c.in-Call.func from in
    let there : kind_at t c.args.number ≡ Some i =
    kind_there t c.args.number (node_shown c.in-Some.node.now) i
    (slice_get-map node_shown (nodes_of c.args.code.now) c.args.number ∙ ap (λ (o : Option Node). option_map node_shown o) (sym c.in-Some.ensures)) (ap kind_shown c.in-Call.is) in
    let function : slice_get t.funcs c.in-Call.func ≡ Some (func_shown c.in-Some-func.callee.now) =
    slice_get-map func_shown (funcs_of c.args.code.now) c.in-Call.func ∙ ap (λ (o : Option FuncCode). option_map func_shown o) (sym c.in-Some-func.ensures) in
    let run : ThreadRun = record { func = c.args.caller; state = c.end_call.new.self; frames = c.args.self.now.frames; told = c.args.self.now.told } in
    call_returns setting t c.args.number c.args.caller c.in-Call.func to from (func_shown c.in-Some-func.callee.now) c.args.self.now run gs f fs s frame there function frames is refl refl refl c.end_call.ensures.going
    (λ contexts names callee_names r qs values x ret params passed target q at.
    c.in-Ok.ensures.state contexts names callee_names r qs values x ret
    (subst (λ (xs : List ℕ). AreSlots callee_names xs (param_names qs)) (sym c.deref.ensures.value) params)
    (subst (λ (xs : List _). AreArgs names (args_shown xs) values) (sym c.deref-2.ensures.value) passed) target q at)

pub returns-in-Err-clause-meaning : goal.returns-in-Err-clause-meaning
returns-in-Err-clause-meaning c = λ k setting gs f fs s of_table runs frame frames is.
    let t : Table = code_shown c.args.code.now in
    let to = target_shown c.in-Call.target in
    let from = args_shown c.in-Call.args.items in
    let i : Kind = call_node to c.in-Call.func from in
    let there : kind_at t c.args.number ≡ Some i =
    kind_there t c.args.number (node_shown c.in-Some.node.now) i
    (slice_get-map node_shown (nodes_of c.args.code.now) c.args.number ∙ ap (λ (o : Option Node). option_map node_shown o) (sym c.in-Some.ensures)) (ap kind_shown c.in-Call.is) in
    let function : slice_get t.funcs c.in-Call.func ≡ Some (func_shown c.in-Some-func.callee.now) =
    slice_get-map func_shown (funcs_of c.args.code.now) c.in-Call.func ∙ ap (λ (o : Option FuncCode). option_map func_shown o) (sym c.in-Some-func.ensures) in
    let run : ThreadRun = record { func = c.args.caller; state = c.end_call.new.self; frames = c.args.self.now.frames; told = c.args.self.now.told } in
    let code = func_shown c.in-Some-func.callee.now in
    call_faults setting t c.args.number c.args.caller c.in-Call.func to from code c.args.self.now run gs f fs s c.in-Err.kind (return_line code.ret) c.line_of.result frame there function frames is refl refl refl c.line_of.ensures
    (λ contexts names callee_names r qs values x ret params passed target q at.
    c.in-Err.ensures.state contexts names callee_names r qs values x ret
    (subst (λ (xs : List ℕ). AreSlots callee_names xs (param_names qs)) (sym c.deref.ensures.value) params)
    (subst (λ (xs : List _). AreArgs names (args_shown xs) values) (sym c.deref-2.ensures.value) passed) target q at)
