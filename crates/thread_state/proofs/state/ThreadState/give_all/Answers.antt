use Rattle.std.proofs.Common.{ap, ◌∙◌}
use Rattle.block_arena.specs.Region.{with_given}
use Rattle.thread_state.proofs.Held.{holdings_are}
use Rattle.thread_state.proofs.state.ThreadState.give_all.Goals as goal

pub returns-clause-pool : goal.returns-clause-pool
returns-clause-pool c = c.give_all.ensures ∙ ap (λ n. with_given c.args.pool.now n) c.into_rows.ensures

pub returns-clause-words : goal.returns-clause-words
returns-clause-words c = λ contexts s is. returns-clause-pool c ∙ ap (λ n. with_given c.args.pool.now n) (holdings_are contexts c.args.self s is)
