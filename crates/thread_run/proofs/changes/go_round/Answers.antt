use Rattle.std.proofs.Common.{◌≡◌, ◌∷◌, ◌∙◌, ℕ, suc, Some, refl, sym, arith}
use Rattle.std.specs.Prelude.{map}
use Rattle.par_tree.specs.Tree.{step, while_stmt, done, Body}
use Rattle.thread_state.specs.Passed.Middle.{middle, before_all, step_turn}
use Rattle.node_table.specs.Names.{slot_names}
use Rattle.node_table.specs.Codes.{code_shown}
use Rattle.thread_stack.specs.declared.frame.Frame.TheVariants.{Again}
use Rattle.thread_state.specs.States.{IsState}
use Rattle.thread_run.specs.declared.done.Done.TheVariants.{Silent}
use Rattle.thread_run.proofs.Coming.{at_point, one_turn, turned, turn_fails, faulted}
use Rattle.thread_run.proofs.changes.go_round.Goals as goal

pub returns-in-Ok-clause-meaning : goal.returns-in-Ok-clause-meaning
returns-in-Ok-clause-meaning c = λ k setting g e a body again gs xs fs s at.
    let line = c.args.line in
    let left : ℕ = c.turn.new.self.turns in
    let had = at.state.turns in
    let one = c.in-Ok.ensures.turns in
    let some : s.turns ≡ suc left = omega (arith, had, one) in
    let loop : Body = step line (while_stmt e a) done in
    let is : IsState (map slot_names (g ∷ gs)) c.turn.new.self (record s { turns = left }) =
    turned (map slot_names (g ∷ gs)) c.turn.new.self line left s some (c.in-Ok.ensures.state (map slot_names (g ∷ gs)) line s at.state) in
    at_point setting (code_shown c.args.code.now) (g ∷ gs) c.turn.new.self xs fs s (middle (before_all a (before_all loop fs)) (record s { turns = left }))
    (step_turn s.turns line (before_all a (before_all loop fs)) fs s) (Silent c.frame_from.result (Some (Again c.args.number)))
    (one_turn line (before_all a (before_all loop fs)) fs s left some)
    (c.frame_from.ensures.frames setting.program (g ∷ gs) a (Again c.args.number ∷ xs) (before_all loop fs) body ((loop, refl, again), at.frames), is, refl)

pub returns-in-Err-clause-meaning : goal.returns-in-Err-clause-meaning
returns-in-Err-clause-meaning c = λ k setting g e a body again gs xs fs s at.
    let line = c.args.line in
    let loop : Body = step line (while_stmt e a) done in
    let stop = c.in-Err.ensures.state (map slot_names (g ∷ gs)) line s at.state in
    faulted (code_shown c.args.code.now) k setting g gs c.turn.new.self xs fs s c.in-Err.kind line (step_turn s.turns line (before_all a (before_all loop fs)) fs s) c.fault.result c.fault.ensures
    (record { setting = at.setting; frames = at.frames; state = stop.0 })
    (turn_fails line c.in-Err.kind (before_all a (before_all loop fs)) fs s (sym at.state.faulted ∙ c.requires) stop.1)
