use Rattle.std.proofs.Common.{◌≡◌, ◌∷◌, ◌∙◌, refl, sym, subst}
use Rattle.std.specs.Prelude.{map}
use Rattle.thread_state.specs.Passed.States.{with_number}
use Rattle.thread_state.specs.Passed.Values.{value}
use Rattle.thread_state.specs.Passed.Run.{set_integer}
use Rattle.thread_state.specs.Passed.Middle.{middle}
use Rattle.node_table.specs.Names.{slot_names, name_at}
use Rattle.par_tree.specs.Tree.{Name}
use Rattle.thread_run.specs.Dones.{Comes, settled_done}
use Rattle.thread_run.specs.declared.done.Done.{Done}
use Rattle.thread_run.proofs.Coming.{settled_comes, settled_silent}
use Rattle.thread_run.proofs.changes.set.Goals as goal

pub returns-clause-meaning : goal.returns-clause-meaning
returns-clause-meaning c = λ t k setting g x e slot read gs xs fs s at.
    let going : c.set-result.new.self.faulted ≡ _ = c.set-result.ensures.going ∙ c.requires.going in
    subst (λ (d : Done). Comes setting t (g ∷ gs) c.set-result.new.self xs fs s (middle fs (with_number c.args.line (value s.store e) (set_integer x) s)) d) (sym c.settle.ensures)
    (subst (λ (y : Name). Comes setting t (g ∷ gs) c.set-result.new.self xs fs s (middle fs (with_number c.args.line (value s.store e) (set_integer y) s)) (settled_done c.args.line c.set-result.result)) slot.reads
    (let y : Name = name_at (slot_names g) c.args.slot in
    settled_comes t k setting g gs c.args.state.now c.set-result.new.self xs fs c.args.line (with_number c.args.line (value s.store e) (set_integer y)) s c.set-result.result at
    (settled_silent setting t g gs c.set-result.new.self xs fs c.args.line (value s.store e) (set_integer y) s at.frames going (λ v is. refl))
    (c.set-result.ensures.state (map slot_names gs) (slot_names g) c.args.line e read s at.state)))
