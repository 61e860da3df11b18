use Rattle.std.proofs.Common.{ap, ◌∙◌, arith}
use Rattle.block_arena.specs.Region.{with_given}
use Rattle.thread_frames.specs.Shown.{thread_shown}
use Rattle.thread_actions.proofs.acts.join.Goals as goal

pub returns-clause-acts : goal.returns-clause-acts
returns-clause-acts c child setting k is items waiting results stands period period_is given =
    c.put_back.ensures.joins items thread_shown waiting results k _ period (thread_shown c.args.top) is.place stands period_is (c.join_done-joined.ensures.did setting k child is)

pub returns-clause-back : goal.returns-clause-back
returns-clause-back c = (c.join_done-joined.new.top, c.put_back.ensures.deques, c.join_done-joined.ensures.point)

pub give_all-requires : goal.give_all-requires
give_all-requires c = let words = c.join_done-joined.ensures.rows in let live = c.requires.live in omega (arith, words, live)

pub returns-clause-pool : goal.returns-clause-pool
returns-clause-pool c = c.give_all.ensures ∙ ap (λ n. with_given c.args.pool.now n) c.join_done-joined.ensures.rows
