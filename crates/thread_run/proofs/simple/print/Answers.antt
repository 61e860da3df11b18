use Rattle.std.proofs.Common.{◌≡◌, ◌∷◌, ◌∙◌, ℤ, Ok, SFits, to_z, of_z, w64, rules, refl, ap}
use Rattle.std.proofs.lemmas.Int.{to_z-of_z}
use Rattle.std.specs.Prelude.{map}
use Rattle.thread_state.specs.Passed.Values.{value}
use Rattle.thread_state.specs.Passed.Run.{print_number}
use Rattle.thread_state.specs.Passed.Middle.{middle}
use Rattle.thread_state.specs.Passed.States.{State, with_number}
use Rattle.node_table.specs.Names.{slot_names}
use Rattle.thread_run.specs.declared.done.Done.TheVariants.{Prints}
use Rattle.thread_run.proofs.Coming.{at_point, items_aside, faulted, state_number_is, state_fault_is}
use Rattle.thread_run.proofs.simple.print.Goals as goal

pub returns-in-Ok-clause-meaning : goal.returns-in-Ok-clause-meaning
returns-in-Ok-clause-meaning c = λ t k setting g e read gs xs fs s at.
    let fits : SFits w64 c.in-Ok.number = search rules in
    let v : ℤ = to_z w64 (of_z w64 c.in-Ok.number) in
    let number : Ok v ≡ value s.store e = ap Ok (to_z-of_z w64 c.in-Ok.number fits) ∙ c.in-Ok.ensures (map slot_names gs) (slot_names g) s e at.state read in
    at_point setting t (g ∷ gs) c.args.state.now xs fs s (middle fs (print_number v s)) (middle fs (with_number c.args.line (value s.store e) print_number s)) (Prints v)
    (state_number_is c.args.line v (value s.store e) print_number fs s number) (at.frames, items_aside (slot_names g ∷ map slot_names gs) c.args.state.now s (State.items (print_number v s)) at.state, refl)

pub returns-in-Err-clause-meaning : goal.returns-in-Err-clause-meaning
returns-in-Err-clause-meaning c = λ t k setting g e read gs xs fs s at.
    faulted t k setting g gs c.args.state.now xs fs s c.in-Err.kind c.args.line (middle fs (with_number c.args.line (value s.store e) print_number s)) c.fault.result
    c.fault.ensures at
    (state_fault_is c.args.line c.in-Err.kind (value s.store e) print_number fs s (c.in-Err.ensures (map slot_names gs) (slot_names g) s e at.state read))
