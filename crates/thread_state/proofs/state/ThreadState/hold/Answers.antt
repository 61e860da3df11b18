use Rattle.std.proofs.Common.{List, ℤ, pos, replicate, refl, subst}
use Rattle.depth_first_run.specs.Passed.Actions as actions
use Rattle.depth_first_run.specs.Stores.{hold_block, block_words}
use Rattle.node_table.specs.Names.{name_at}
use Rattle.slot_store.specs.Shown.{slots_shown}
use Rattle.slot_store.specs.Agreement.{ShowsStore}
use Rattle.thread_state.proofs.Steps.{own_store, is_acting}
use Rattle.thread_state.proofs.state.ThreadState.hold.Goals as goal

pub returns : goal.returns
returns c = λ contexts names n zeros s is.
    let shows = own_store contexts names c.args.self.now s c.requires.going is in
    let b = name_at names c.args.slot in
    is_acting contexts names c.args.self.now _ s (hold_block b (replicate n (pos 0))) actions.allocates (block_words n)
    (record { label = refl; done = refl; forks = refl; faulted = refl; callers = refl; calls = refl; turns = refl })
    c.requires.going is
    (subst (λ (items : List ℤ). ShowsStore names (slots_shown c.hold.new.self) (hold_block b items s.store)) zeros (c.hold.ensures.store names s.store shows))
