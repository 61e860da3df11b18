use Rattle.std.proofs.Common.{◌∙◌, ℕ, length, refl, sym, ap, arith}
use Rattle.block_arena.specs.Size.{words_taken}
use Rattle.block_arena.specs.Region.{with_given}
use Rattle.depth_first_run.specs.Passed.Actions as actions
use Rattle.depth_first_run.specs.Stores.{drop_block, block_words, block_of}
use Rattle.node_table.specs.Names.{name_at}
use Rattle.thread_state.proofs.Totals.{items_taken, words_are}
use Rattle.thread_state.proofs.Steps.{own_store, is_acting}
use Rattle.thread_state.proofs.state.ThreadState.release.Goals as goal

pub give-shell-requires : goal.give-shell-requires
give-shell-requires c =
    let taken = items_taken _ _ c.take-block.ensures.block in
    let live = c.requires.live in
    omega (arith, taken, live)

pub returns-clause-state : goal.returns-clause-state
returns-clause-state c = λ contexts names s is.
    let shows = own_store contexts names c.args.self.now s c.requires.going is in
    let b = name_at names c.args.slot in
    is_acting contexts names c.args.self.now _ s (drop_block b) actions.releases (block_words (length (block_of s.store.blocks b)))
    (record { label = refl; done = refl; forks = refl; faulted = refl; callers = refl; calls = refl; turns = refl })
    c.requires.going is (c.take-block.ensures.store names s.store shows).1

pub returns-clause-pool : goal.returns-clause-pool
returns-clause-pool c =
    c.give-shell.ensures.given ∙ ap (λ (n : ℕ). with_given c.args.pool.now n) (sym (items_taken _ _ c.take-block.ensures.block))

pub returns-clause-words : goal.returns-clause-words
returns-clause-words c = λ contexts names s is.
    let shows = own_store contexts names c.args.self.now s c.requires.going is in
    let items = (c.take-block.ensures.store names s.store shows).0 in
    c.give-shell.ensures.given ∙ ap (λ (n : ℕ). with_given c.args.pool.now n)
    (sym (words_are (length (block_of s.store.blocks (name_at names c.args.slot))) _ (ap (λ xs. words_taken (length xs)) items)))
