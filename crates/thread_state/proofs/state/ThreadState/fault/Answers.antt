use Rattle.std.proofs.Common.{refl, ap, ◌∙◌}
use Rattle.block_arena.specs.Region.{with_given}
use Rattle.thread_state.proofs.Held.{holdings_are, is_fault}
use Rattle.thread_state.proofs.state.ThreadState.fault.Goals as goal

pub returns-clause-state : goal.returns-clause-state
returns-clause-state c = λ contexts kind line s is.
    is_fault contexts c.args.self.now _ s kind line refl refl refl refl refl refl c.take_rows.ensures.slots c.take_rows.ensures.callers is

pub returns-clause-words : goal.returns-clause-words
returns-clause-words c = λ contexts s is.
    c.give_all.ensures ∙ ap (λ n. with_given c.args.pool.now n) (c.take_rows.ensures.words ∙ holdings_are contexts c.args.self.now s is)
