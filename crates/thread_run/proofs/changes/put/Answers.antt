use Rattle.std.proofs.Common.{◌≡◌, ◌∷◌, ◌∙◌, sym, subst}
use Rattle.std.specs.Prelude.{map}
use Rattle.thread_state.specs.Passed.States.{with_number}
use Rattle.thread_state.specs.Passed.Values.{value}
use Rattle.thread_state.specs.Passed.Run.{put_value}
use Rattle.thread_state.specs.Passed.Middle.{middle}
use Rattle.node_table.specs.Names.{slot_names, name_at}
use Rattle.par_tree.specs.Tree.{Name}
use Rattle.thread_run.specs.Dones.{Comes, settled_done}
use Rattle.thread_run.specs.declared.done.Done.{Done}
use Rattle.thread_run.proofs.Coming.{settled_comes, settled_silent, put_items}
use Rattle.thread_run.proofs.changes.put.Goals as goal

pub returns-clause-meaning : goal.returns-clause-meaning
returns-clause-meaning c = λ t k setting g x i e slot read_index read gs xs fs s at.
    let going : c.put-result.new.self.faulted ≡ _ = c.put-result.ensures.going ∙ c.requires.going in
    let line = c.args.line in
    subst (λ (d : Done). Comes setting t (g ∷ gs) c.put-result.new.self xs fs s (middle fs (with_number line (value s.store i) (put_value line x e) s)) d) (sym c.settle.ensures)
    (subst (λ (y : Name). Comes setting t (g ∷ gs) c.put-result.new.self xs fs s (middle fs (with_number line (value s.store i) (put_value line y e) s)) (settled_done line c.put-result.result)) slot.reads
    (let y : Name = name_at (slot_names g) c.args.slot in
    settled_comes t k setting g gs c.args.state.now c.put-result.new.self xs fs line (with_number line (value s.store i) (put_value line y e)) s c.put-result.result at
    (settled_silent setting t g gs c.put-result.new.self xs fs line (value s.store i) (put_value line y e) s at.frames going
    (λ v is. put_items (map slot_names (g ∷ gs)) c.put-result.new.self line y e v s going is))
    (c.put-result.ensures.state (map slot_names gs) (slot_names g) line i e read_index read s at.state)))
