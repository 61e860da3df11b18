use Rattle.std.proofs.Common.{◌≡◌, ◌∷◌, ◌∙◌, ℤ, Ok, SFits, to_z, of_z, w64, rules, ap}
use Rattle.std.proofs.lemmas.Int.{to_z-of_z}
use Rattle.std.specs.Prelude.{map}
use Rattle.thread_state.specs.Passed.Values.{value}
use Rattle.thread_state.specs.Passed.Middle.{step_with_number, step_if, step_branch}
use Rattle.node_table.specs.Names.{slot_names}
use Rattle.node_table.specs.Codes.{code_shown}
use Rattle.thread_run.proofs.Coming.{at_point, number_is}
use Rattle.thread_run.proofs.simple.choose.Goals as goal

pub returns-in-Ok-clause-meaning : goal.returns-in-Ok-clause-meaning
returns-in-Ok-clause-meaning c = λ k setting g e a b read first second gs xs fs s at.
    let fits : SFits w64 c.in-Ok.value = search rules in
    let v : ℤ = to_z w64 (of_z w64 c.in-Ok.value) in
    let number : Ok v ≡ value s.store e = ap Ok (to_z-of_z w64 c.in-Ok.value fits) ∙ c.in-Ok.ensures (map slot_names gs) (slot_names g) s e at.state read in
    at_point setting (code_shown c.args.code.now) (g ∷ gs) c.args.state.now xs fs s _ (step_with_number c.args.line (value s.store e) (step_if a b) fs s) c.take_arm.result
    (ap (λ t. step_branch t a b fs s) c.is_true.ensures ∙ number_is c.args.line v (value s.store e) (step_if a b) fs s number)
    (c.take_arm.ensures.meaning k setting g c.args.state.now a b first second gs xs fs s at)
