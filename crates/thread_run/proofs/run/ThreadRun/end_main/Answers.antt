use Rattle.std.proofs.Common.{◌≡◌, ◌∙◌, Option, Some, refl, sym, ap}
use Rattle.std.specs.Prelude.{slice_get}
use Rattle.std.specs.Option.{option_map}
use Rattle.std.proofs.lemmas.Option.{slice_get-map}
use Rattle.node_table.specs.Codes.{code_shown, funcs_of}
use Rattle.node_table.specs.Shown.{func_shown}
use Rattle.node_table.specs.Table.{Table}
use Rattle.node_table.specs.declared.func_code.FuncCode.{FuncCode}
use Rattle.thread_state.specs.Calls.{return_line}
use Rattle.thread_run.proofs.Returning.{main_returns, main_faults}
use Rattle.thread_run.proofs.run.ThreadRun.end_main.Goals as goal

pub returns-in-Ok-clause-meaning : goal.returns-in-Ok-clause-meaning
returns-in-Ok-clause-meaning c = λ k setting gs f fs s of_table runs frame frames is.
    let t : Table = code_shown c.args.code.now in
    let function : slice_get t.funcs t.main ≡ Some (func_shown c.in-Some.main.now) =
    slice_get-map func_shown (funcs_of c.args.code.now) t.main ∙ ap (λ (i : _). option_map func_shown (slice_get (funcs_of c.args.code.now) i)) (sym c.main.ensures)
    ∙ ap (λ (o : Option FuncCode). option_map func_shown o) (sym c.in-Some.ensures) in
    main_returns setting t (func_shown c.in-Some.main.now) c.args.self.now c.args.self.now gs f fs s frame function runs frames is refl c.in-Ok.ensures

pub returns-in-Err-clause-meaning : goal.returns-in-Err-clause-meaning
returns-in-Err-clause-meaning c = λ k setting gs f fs s of_table runs frame frames is.
    let t : Table = code_shown c.args.code.now in
    let code = func_shown c.in-Some.main.now in
    let function : slice_get t.funcs t.main ≡ Some code =
    slice_get-map func_shown (funcs_of c.args.code.now) t.main ∙ ap (λ (i : _). option_map func_shown (slice_get (funcs_of c.args.code.now) i)) (sym c.main.ensures)
    ∙ ap (λ (o : Option FuncCode). option_map func_shown o) (sym c.in-Some.ensures) in
    main_faults setting t code c.args.self.now c.args.self.now gs f fs s c.in-Err.kind (return_line code.ret) c.line_of.result frame function runs frames is refl c.line_of.ensures c.in-Err.ensures
