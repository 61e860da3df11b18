use Rattle.std.proofs.Common.{◌∙◌, ◌*◌, sym, ap}
use Rattle.language_limits.specs.declared.TheConstants.{PIECE_WORDS}
use Rattle.block_arena.specs.Size.{pieces_for}
use Rattle.thread_state.proofs.Totals.{words_are}
use Rattle.thread_state.proofs.Steps.{own_store}
use Rattle.thread_state.proofs.state.ThreadState.words_at.Goals as goal

pub returns : goal.returns
returns c = λ contexts names s is below.
    let shows = own_store contexts names c.args.self.now s c.requires is in
    let len = c.length.ensures.store names s.store shows below in
    let count = c.from-2.ensures ∙ c.pieces_for.ensures ∙ ap pieces_for len in
    sym (words_are _ _ (sym (ap (λ n. n * c.from-2.result) c.from.ensures ∙ ap (λ n. PIECE_WORDS * n) count)))
