use Rattle.std.proofs.Common.{◌∷◌, ◌∙◌, refl, sym}
use Rattle.depth_first_run.specs.Run.{on_store, rejoin_block}
use Rattle.depth_first_run.specs.States.{unless_faulted}
use Rattle.node_table.specs.Names.{name_at}
use Rattle.thread_state.proofs.Steps.{own_store, is_stored, at_same}
use Rattle.thread_state.proofs.Splits.{skipped, unskipped}
use Rattle.thread_state.proofs.state.ThreadState.rejoin.Goals as goal

pub returns-then-self-clause-state : goal.returns-then-self-clause-state
returns-then-self-clause-state c = λ contexts names s is.
    let f = on_store (rejoin_block (name_at names c.args.slot) (name_at names c.args.left) (name_at names c.args.right)) in
    at_same (names ∷ contexts) c.args.self.now s (unless_faulted f s) (sym (skipped f s (sym is.faulted ∙ c.if-self.true))) is

pub returns-in-Ok-clause-state : goal.returns-in-Ok-clause-state
returns-in-Ok-clause-state c = λ contexts names s is.
    let shows = own_store contexts names c.args.self.now s c.if-self.false is in
    let g = rejoin_block (name_at names c.args.slot) (name_at names c.args.left) (name_at names c.args.right) in
    at_same (names ∷ contexts) _ (on_store g s) (unless_faulted (on_store g) s) (sym (unskipped (on_store g) s (sym is.faulted ∙ c.if-self.false)))
    (is_stored contexts names c.args.self.now _ s g
    (record { label = refl; done = refl; forks = refl; faulted = refl; callers = refl; calls = refl; turns = refl })
    c.if-self.false is (c.in-Ok.ensures.store names s.store shows))
