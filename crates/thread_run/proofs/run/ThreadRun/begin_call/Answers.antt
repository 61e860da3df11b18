use Rattle.std.proofs.Common.{◌≡◌, ◌+◌, ◌∷◌, ◌++◌, ◌∙◌, ℕ, List, Option, Some, sym, ap, subst}
use Rattle.std.specs.Prelude.{slice_get, map, reverse}
use Rattle.std.specs.Option.{option_map}
use Rattle.std.proofs.lemmas.Option.{slice_get-map}
use Rattle.par_tree.specs.Names.{param_names}
use Rattle.thread_state.specs.Passed.States.{State}
use Rattle.thread_state.specs.Passed.DepthFirstRunCalls.{all_passed}
use Rattle.node_table.specs.Names.{slot_names}
use Rattle.node_table.specs.Codes.{code_shown, funcs_of}
use Rattle.node_table.specs.Shown.{node_shown, kind_shown, func_shown, target_shown, args_shown}
use Rattle.node_table.specs.Reading.{AreSlots, AreArgs}
use Rattle.node_table.specs.Table.{Table, Kind, call_node}
use Rattle.node_table.specs.declared.func_code.FuncCode.{FuncCode}
use Rattle.node_table.proofs.Distinct.{names_differ}
use Rattle.thread_stack.specs.declared.frame.Frame.{Frame}
use Rattle.thread_stack.specs.declared.frame.Frame.TheVariants.{Answers}
use Rattle.thread_stack.specs.Frames.{AreFrames, frames_shown}
use Rattle.thread_stack.specs.Lists.{kind_at}
use Rattle.thread_state.specs.Calls.{begun}
use Rattle.thread_state.specs.Effects.{OnStop}
use Rattle.thread_state.specs.declared.stop.Stop.{Stop}
use Rattle.thread_state.specs.States.{IsState}
use Rattle.thread_state.specs.declared.state.ThreadState.{ThreadState}
use Rattle.thread_run.proofs.Arms.{kind_there}
use Rattle.dag_order.specs.declared.fault.FaultKind.{FaultKind}
use Rattle.par_ownership.specs.Ownership.{function_of}
use Rattle.thread_state.specs.Passed.Middle.{step_call}
use Rattle.thread_run.specs.declared.ready.Ready.TheVariants.{Fault}
use Rattle.thread_run.specs.declared.run.ThreadRun.{ThreadRun}
use Rattle.thread_run.specs.Calling.{Begins}
use Rattle.thread_run.specs.Functions.{frames_of}
use Rattle.thread_run.proofs.Beginning.{called, begins, stops, call_cost}
use Rattle.thread_run.proofs.Knowing.{on_line}
use Rattle.thread_run.proofs.run.ThreadRun.begin_call.Goals as goal

pub returns-in-Ok-clause-meaning : goal.returns-in-Ok-clause-meaning
returns-in-Ok-clause-meaning c = λ k setting g gs line target name args fs s of_table runs node frames is.
    let t : Table = code_shown c.args.code.now in
    let to = target_shown c.in-Call.target in
    let from = args_shown c.in-Call.args.items in
    let i : Kind = call_node to c.in-Call.func from in
    let there : kind_at t c.args.number ≡ Some i =
    kind_there t c.args.number (node_shown c.args.node.now) i c.requires.there (ap kind_shown c.in-Call.is) in
    let function : slice_get t.funcs c.in-Call.func ≡ Some (func_shown c.in-Some.callee.now) =
    slice_get-map func_shown (funcs_of c.args.code.now) c.in-Call.func ∙ ap (λ (o : Option FuncCode). option_map func_shown o) (sym c.in-Some.ensures) in
    let h = called setting t k g c.args.number line target name args to c.in-Call.func from (func_shown c.in-Some.callee.now) of_table node there function in
    let begun_is = c.in-Ok.ensures.state (map slot_names gs) (slot_names g) (slot_names h.function) setting line h.function.params args of_table.calls
    (names_differ h.function) h.slots
    (subst (λ (xs : List ℕ). AreSlots (slot_names h.function) xs (param_names h.function.params)) (sym c.deref.ensures.value) h.params)
    (subst (λ (xs : List _). AreArgs (slot_names g) (args_shown xs) args) (sym c.deref-2.ensures.value) h.passed) s is in
    let state : IsState (slot_names h.function ∷ slot_names g ∷ map slot_names gs) c.enter.new.self.state (begun setting line (all_passed s.store h.function.params args) s) =
    subst (λ (u : ThreadState). IsState (slot_names h.function ∷ slot_names g ∷ map slot_names gs) u (begun setting line (all_passed s.store h.function.params args) s)) (sym c.enter.ensures.state) begun_is in
    let going = ap (λ (u : ThreadState). u.faulted) c.enter.ensures.state ∙ c.in-Ok.ensures.going ∙ c.requires.going in
    let left : frames_of c.enter.new.self ≡ frames_shown c.frame_from-body.result ++ (Answers c.args.number c.args.self.now.func ∷ frames_of c.args.self.now) =
    c.enter.ensures.frames ∙ ap (λ (xs : List Frame). frames_shown c.frame_from-body.result ++ (Answers c.args.number c.args.self.now.func ∷ reverse xs)) c.reserve.ensures.items in
    begins setting t k g gs c.args.number line target name args to c.in-Call.func from (func_shown c.in-Some.callee.now) c.args.self.now c.enter.new.self c.frame_from-body.result fs s h node there
    runs frames c.frame_from-body.ensures.frames left c.enter.ensures.func going state

pub returns-in-Ok-clause-cost : goal.returns-in-Ok-clause-cost
returns-in-Ok-clause-cost c =
    let t : Table = code_shown c.args.code.now in
    let function : slice_get t.funcs c.in-Call.func ≡ Some (func_shown c.in-Some.callee.now) =
    slice_get-map func_shown (funcs_of c.args.code.now) c.in-Call.func ∙ ap (λ (o : Option FuncCode). option_map func_shown o) (sym c.in-Some.ensures) in
    call_cost t c.in-Call.func (func_shown c.in-Some.callee.now) c.args.self.now.state.turns c.enter.new.self.state.turns c.frame_from-body.result c.args.number c.args.self.now.func
    (frames_of c.args.self.now) (frames_of c.enter.new.self) function (ap (λ (u : ThreadState). u.turns + 1) c.enter.ensures.state ∙ c.in-Ok.ensures.turns) c.frame_from-body.ensures.cost
    (c.enter.ensures.frames ∙ ap (λ (xs : List Frame). frames_shown c.frame_from-body.result ++ (Answers c.args.number c.args.self.now.func ∷ reverse xs)) c.reserve.ensures.items)

pub returns-in-Err-Fault-clause-meaning : goal.returns-in-Err-Fault-clause-meaning
returns-in-Err-Fault-clause-meaning c = λ k setting g gs line target name args fs s of_table runs node frames is.
    let t : Table = code_shown c.args.code.now in
    let to = target_shown c.in-Call.target in
    let from = args_shown c.in-Call.args.items in
    let i : Kind = call_node to c.in-Call.func from in
    let by_number : slice_get t.nodes c.args.number ≡ Some (node_shown c.args.node.now) = c.requires.there in
    let there : kind_at t c.args.number ≡ Some i = kind_there t c.args.number (node_shown c.args.node.now) i by_number (ap kind_shown c.in-Call.is) in
    let function : slice_get t.funcs c.in-Call.func ≡ Some (func_shown c.in-Some.callee.now) =
    slice_get-map func_shown (funcs_of c.args.code.now) c.in-Call.func ∙ ap (λ (o : Option FuncCode). option_map func_shown o) (sym c.in-Some.ensures) in
    let h = called setting t k g c.args.number line target name args to c.in-Call.func from (func_shown c.in-Some.callee.now) of_table node there function in
    let contexts = slot_names g ∷ map slot_names gs in
    let stop = subst (λ (x : Stop). OnStop contexts line c.call.new.self (λ (q : State). begun setting line (all_passed q.store h.function.params args) q) s x) c.in-Err-Fault.field-0-is
    (c.in-Err-Fault.ensures.state (map slot_names gs) (slot_names g) (slot_names h.function) setting line h.function.params args of_table.calls
    (names_differ h.function) h.slots
    (subst (λ (xs : List ℕ). AreSlots (slot_names h.function) xs (param_names h.function.params)) (sym c.deref.ensures.value) h.params)
    (subst (λ (xs : List _). AreArgs (slot_names g) (args_shown xs) args) (sym c.deref-2.ensures.value) h.passed) s is) in
    let going = c.in-Err-Fault.ensures.going ∙ c.requires.going in
    let run : ThreadRun = record { func = c.args.self.now.func; state = c.call.new.self; frames = c.reserve.new.self; told = c.args.self.now.told } in
    subst (λ (kind : FaultKind). Begins setting t (g ∷ gs) run s (step_call setting line target args (function_of setting.program name) fs s) (Some (Fault (record { kind = kind; line = c.args.node.now.line })))) (sym c.in-Err-Fault.kind-is)
    (stops setting t g gs line c.args.node.now.line target name args c.in-Err-Fault.kind c.args.self.now run h.function fs s
    h.found (on_line setting.program t (slot_names g) c.args.number line _ (node_shown c.args.node.now) node by_number) runs
    (subst (λ (xs : List Frame). AreFrames setting.program t (g ∷ gs) (reverse xs) fs) (sym c.reserve.ensures.items) frames) going stop.0 stop.1)

pub returns-in-Err-OutOfMemory-clause-meaning : goal.returns-in-Err-OutOfMemory-clause-meaning
returns-in-Err-OutOfMemory-clause-meaning c = λ k setting g gs line target name args fs s of_table runs node frames is.
    let t : Table = code_shown c.args.code.now in
    let to = target_shown c.in-Call.target in
    let from = args_shown c.in-Call.args.items in
    let i : Kind = call_node to c.in-Call.func from in
    let there : kind_at t c.args.number ≡ Some i =
    kind_there t c.args.number (node_shown c.args.node.now) i c.requires.there (ap kind_shown c.in-Call.is) in
    let function : slice_get t.funcs c.in-Call.func ≡ Some (func_shown c.in-Some.callee.now) =
    slice_get-map func_shown (funcs_of c.args.code.now) c.in-Call.func ∙ ap (λ (o : Option FuncCode). option_map func_shown o) (sym c.in-Some.ensures) in
    let h = called setting t k g c.args.number line target name args to c.in-Call.func from (func_shown c.in-Some.callee.now) of_table node there function in
    subst (λ (x : Stop). OnStop (slot_names g ∷ map slot_names gs) line c.call.new.self (λ (q : State). begun setting line (all_passed q.store h.function.params args) q) s x) c.in-Err-OutOfMemory.field-0-is
    (c.in-Err-OutOfMemory.ensures.state (map slot_names gs) (slot_names g) (slot_names h.function) setting line h.function.params args of_table.calls
    (names_differ h.function) h.slots
    (subst (λ (xs : List ℕ). AreSlots (slot_names h.function) xs (param_names h.function.params)) (sym c.deref.ensures.value) h.params)
    (subst (λ (xs : List _). AreArgs (slot_names g) (args_shown xs) args) (sym c.deref-2.ensures.value) h.passed) s is)
