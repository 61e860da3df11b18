use Rattle.std.proofs.Common.{◌≡◌, ◌∷◌, ◌∙◌, ℤ, Ok, SFits, to_z, of_z, w64, rules, ap}
use Rattle.std.proofs.lemmas.Int.{to_z-of_z}
use Rattle.std.specs.Prelude.{map}
use Rattle.thread_state.specs.Passed.Values.{value}
use Rattle.thread_state.specs.Passed.Middle.{step_with_number, step_split}
use Rattle.node_table.specs.Names.{slot_names}
use Rattle.node_table.specs.Codes.{code_shown}
use Rattle.thread_run.proofs.Coming.{result_at_point, number_is}
use Rattle.thread_run.proofs.changes.split.Goals as goal

pub returns-in-Ok-clause-meaning : goal.returns-in-Ok-clause-meaning
returns-in-Ok-clause-meaning c = λ k setting g b l r e a whole first second read node inside gs xs fs s at.
    let fits : SFits w64 c.in-Ok.at = search rules in
    let v : ℤ = to_z w64 (of_z w64 c.in-Ok.at) in
    let line = c.args.line in
    let number : Ok v ≡ value s.store e = ap Ok (to_z-of_z w64 c.in-Ok.at fits) ∙ c.in-Ok.ensures (map slot_names gs) (slot_names g) s e at.state read in
    result_at_point setting (code_shown c.args.code.now) (g ∷ gs) c.cut.new.state xs fs s (step_split line b l r a v fs s) (step_with_number line (value s.store e) (step_split line b l r a) fs s) c.cut.result
    (number_is line v (value s.store e) (step_split line b l r a) fs s number)
    (c.cut.ensures.meaning k setting g b l r a whole first second node inside gs xs fs s at)
