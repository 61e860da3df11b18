use Rattle.std.proofs.Common.{Option, sym, ◌∙◌, ap}
use Rattle.std.specs.Option.{option_map}
use Rattle.std.proofs.lemmas.Option.{slice_get-map}
use Rattle.node_table.specs.Codes.{funcs_of}
use Rattle.node_table.specs.Shown.{func_shown}
use Rattle.node_table.specs.declared.func_code.FuncCode.{FuncCode}
use Rattle.thread_frames.proofs.Beginning.{same_slots, no_function_there}
use Rattle.thread_frames.proofs.going.slots_of.Goals as goal

pub returns-in-Some : goal.returns-in-Some
returns-in-Some c = λ f there.
    same_slots (func_shown c.in-Some.func.now) f
    (sym (slice_get-map func_shown (funcs_of c.args.code.now) c.args.number ∙ ap (λ (o : Option FuncCode). option_map func_shown o) (sym c.in-Some.ensures)) ∙ there)

pub returns-in-None : goal.returns-in-None
returns-in-None c = λ f there.
    no_function_there f
    (sym (slice_get-map func_shown (funcs_of c.args.code.now) c.args.number ∙ ap (λ (o : Option FuncCode). option_map func_shown o) (sym c.in-None.ensures)) ∙ there)
