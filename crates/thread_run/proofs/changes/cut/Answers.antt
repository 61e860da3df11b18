use Rattle.std.proofs.Common.{ℤ, SFits, to_z, of_z, w64, rules, ◌≡◌, ◌∷◌, ◌∙◌, refl, subst}
use Rattle.std.specs.Prelude.{map}
use Rattle.std.proofs.lemmas.Int.{to_z-of_z}
use Rattle.thread_state.specs.Passed.States.{State}
use Rattle.thread_state.specs.Passed.Stores.{block_of}
use Rattle.thread_state.specs.Passed.Run.{cut_of}
use Rattle.thread_state.specs.Passed.Middle.{rejoins, step_split}
use Rattle.node_table.specs.Names.{slot_names, name_at}
use Rattle.node_table.specs.Codes.{code_shown}
use Rattle.thread_stack.specs.declared.frame.Frame.TheVariants.{Rejoins}
use Rattle.thread_state.specs.Effects.{OnStop}
use Rattle.thread_state.specs.Cuts.{cut_or_fault}
use Rattle.thread_state.specs.declared.stop.Stop.{Stop}
use Rattle.thread_run.proofs.Coming.{cut_comes, cut_fails, cut_named, cut_named_fault, faulted}
use Rattle.thread_run.proofs.changes.cut.Goals as goal

pub returns-in-Ok-clause-meaning : goal.returns-in-Ok-clause-meaning
returns-in-Ok-clause-meaning c = λ k setting g b l r a whole first second node inside gs xs fs s at.
    let line = c.args.line in
    let names = slot_names g in
    let fits : SFits w64 c.args.at = search rules in
    let v : ℤ = to_z w64 (of_z w64 c.args.at) in
    let same : v ≡ c.args.at = to_z-of_z w64 c.args.at fits in
    let going = c.cut.ensures.going ∙ c.requires.going in
    let is = cut_named (map slot_names (g ∷ gs)) c.cut.new.self line b l r (name_at names c.args.parts.block) (name_at names c.args.parts.left) (name_at names c.args.parts.right) v c.args.at s same
    whole.reads first.reads second.reads (c.in-Ok.ensures.state (map slot_names gs) names line s at.state) in
    cut_comes setting (code_shown c.args.code.now) g gs c.cut.new.self xs fs line b l r a (cut_of (block_of s.store.blocks b) c.args.at) s c.frame_from.result c.args.number going
    (c.frame_from.ensures.frames setting.program (g ∷ gs) a (Rejoins c.args.number ∷ xs) (rejoins b l r ∷ fs) inside ((b, l, r, refl, node), at.frames)) is

pub returns-in-Err-Fault-clause-meaning : goal.returns-in-Err-Fault-clause-meaning
returns-in-Err-Fault-clause-meaning c = λ k setting g b l r a whole first second node inside gs xs fs s at.
    let line = c.args.line in
    let names = slot_names g in
    let fits : SFits w64 c.args.at = search rules in
    let v : ℤ = to_z w64 (of_z w64 c.args.at) in
    let same : v ≡ c.args.at = to_z-of_z w64 c.args.at fits in
    let going = c.cut.ensures.going ∙ c.requires.going in
    let f : State → State = cut_or_fault line (name_at names c.args.parts.block) (name_at names c.args.parts.left) (name_at names c.args.parts.right) v in
    let stop = subst (λ (x : Stop). OnStop (map slot_names (g ∷ gs)) line c.cut.new.self f s x) c.in-Err-Fault.field-0-is (c.in-Err-Fault.ensures.state (map slot_names gs) names line s at.state) in
    faulted (code_shown c.args.code.now) k setting g gs c.cut.new.self xs fs s c.in-Err-Fault.kind line (step_split line b l r a c.args.at fs s) c.fault.result c.fault.ensures
    (record { setting = at.setting; frames = at.frames; state = stop.0 })
    (cut_fails (map slot_names (g ∷ gs)) c.cut.new.self fs line c.in-Err-Fault.kind b l r a (cut_of (block_of s.store.blocks b) c.args.at) s going stop.0
    (cut_named_fault c.in-Err-Fault.kind line b l r (name_at names c.args.parts.block) (name_at names c.args.parts.left) (name_at names c.args.parts.right) v c.args.at s same
    whole.reads first.reads second.reads stop.1))

pub returns-in-Err-OutOfMemory-clause-meaning : goal.returns-in-Err-OutOfMemory-clause-meaning
returns-in-Err-OutOfMemory-clause-meaning c = λ k setting g b l r a whole first second node inside gs xs fs s at.
    let line = c.args.line in
    let names = slot_names g in
    let fits : SFits w64 c.args.at = search rules in
    let v : ℤ = to_z w64 (of_z w64 c.args.at) in
    let same : v ≡ c.args.at = to_z-of_z w64 c.args.at fits in
    let f : State → State = cut_or_fault line (name_at names c.args.parts.block) (name_at names c.args.parts.left) (name_at names c.args.parts.right) v in
    subst (λ (x : Stop). OnStop (map slot_names (g ∷ gs)) line c.cut.new.self f s x) c.in-Err-OutOfMemory.field-0-is (c.in-Err-OutOfMemory.ensures.state (map slot_names gs) names line s at.state)
