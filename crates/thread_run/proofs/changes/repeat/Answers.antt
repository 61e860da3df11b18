use Rattle.std.proofs.Common.{◌≡◌, ◌∷◌, ◌∙◌, ℤ, Ok, None, SFits, to_z, of_z, w64, rules, refl, ap}
use Rattle.std.proofs.lemmas.Int.{to_z-of_z}
use Rattle.std.specs.Prelude.{map}
use Rattle.par_tree.specs.Tree.{step, while_stmt, done, Body}
use Rattle.thread_state.specs.Passed.Values.{value}
use Rattle.thread_state.specs.Passed.Middle.{middle, before_all, step_with_number, step_while, step_round, step_turn}
use Rattle.node_table.specs.Names.{slot_names}
use Rattle.node_table.specs.Codes.{code_shown}
use Rattle.thread_run.specs.declared.done.Done.TheVariants.{Silent}
use Rattle.thread_run.proofs.Coming.{at_point, number_is}
use Rattle.thread_run.proofs.changes.repeat.Goals as goal

pub returns-then-is_true-clause-meaning : goal.returns-then-is_true-clause-meaning
returns-then-is_true-clause-meaning c = λ k setting g e a read body again gs xs fs s at.
    let fits : SFits w64 c.in-Ok.value = search rules in
    let v : ℤ = to_z w64 (of_z w64 c.in-Ok.value) in
    let line = c.args.line in
    let loop : Body = step line (while_stmt e a) done in
    let number : Ok v ≡ value s.store e = ap Ok (to_z-of_z w64 c.in-Ok.value fits) ∙ c.in-Ok.ensures (map slot_names gs) (slot_names g) s e at.state read in
    at_point setting (code_shown c.args.code.now) (g ∷ gs) c.go_round.new.state xs fs s (step_turn s.turns line (before_all a (before_all loop fs)) fs s)
    (step_with_number line (value s.store e) (step_while line e a) fs s) c.go_round.result
    (ap (λ b. step_round b line e a fs s) c.if-is_true.ensures ∙ number_is line v (value s.store e) (step_while line e a) fs s number)
    (c.go_round.ensures.meaning k setting g e a body again gs xs fs s at)

pub returns-else-is_true-clause-meaning : goal.returns-else-is_true-clause-meaning
returns-else-is_true-clause-meaning c = λ k setting g e a read body again gs xs fs s at.
    let fits : SFits w64 c.in-Ok.value = search rules in
    let v : ℤ = to_z w64 (of_z w64 c.in-Ok.value) in
    let line = c.args.line in
    let number : Ok v ≡ value s.store e = ap Ok (to_z-of_z w64 c.in-Ok.value fits) ∙ c.in-Ok.ensures (map slot_names gs) (slot_names g) s e at.state read in
    at_point setting (code_shown c.args.code.now) (g ∷ gs) c.args.state.now xs fs s (middle fs s) (step_with_number line (value s.store e) (step_while line e a) fs s) (Silent None None)
    (ap (λ b. step_round b line e a fs s) c.if-is_true.ensures ∙ number_is line v (value s.store e) (step_while line e a) fs s number)
    (at.frames, at.state, refl)
