use Rattle.std.proofs.Common.{◌≡◌, ◌∷◌, ◌∙◌, refl, sym, ap, Some, to_z, of_z, w64}
use Rattle.std.proofs.lemmas.Int.{to_z-of_z}
use Rattle.depth_first_run.specs.Stores.{block_of}
use Rattle.depth_first_run.specs.Run.{on_store, cut_block, cut_of}
use Rattle.node_table.specs.Names.{name_at}
use Rattle.thread_state.specs.Cuts.{cut_or_fault}
use Rattle.thread_state.proofs.Steps.{own_store, own_below, is_stored, at_same}
use Rattle.thread_state.proofs.Splits.{cut_there}
use Rattle.thread_state.proofs.state.ThreadState.cut.Goals as goal

pub returns-in-Ok-clause-state : goal.returns-in-Ok-clause-state
returns-in-Ok-clause-state c = λ contexts names line s is.
    let shows = own_store contexts names c.args.self.now s c.requires.going is in
    let b = name_at names c.args.slot in
    let l = name_at names c.args.left in
    let r = name_at names c.args.right in
    let at : to_z w64 (of_z w64 c.args.at) ≡ c.args.at = to_z-of_z w64 c.args.at c.ranges.at in
    let place : Some c.in-Some.place ≡ cut_of (block_of s.store.blocks b) c.args.at =
    c.in-Some.ensures.store names s.store shows (own_below contexts names c.args.self.now s c.args.slot c.requires.going is c.requires.can.within)
    ∙ ap (λ n. cut_of (block_of s.store.blocks b) n) at in
    at_same (names ∷ contexts) _ (on_store (cut_block b l r c.in-Some.place) s) (cut_or_fault line b l r c.args.at s)
    (sym (cut_there line b l r c.args.at c.in-Some.place s place))
    (is_stored contexts names c.args.self.now _ s (cut_block b l r c.in-Some.place)
    (record { label = refl; done = refl; forks = refl; faulted = refl; callers = refl; calls = refl; turns = refl })
    c.requires.going is (c.in-Ok.ensures.store names s.store shows))
