use Rattle.std.proofs.Common.{ap, ◌∙◌, arith}
use Rattle.block_arena.specs.Region.{with_given}
use Rattle.thread_frames.specs.Shown.{thread_shown, result_shown}
use Rattle.thread_actions.proofs.ends.end_and_leave.Goals as goal

pub returns-clause-acts : goal.returns-clause-acts
returns-clause-acts c setting k is waiting results stands period period_is unwaited =
    c.end_and_leave.ensures.ends thread_shown waiting results k _ period (thread_shown c.args.top.now) is.place (result_shown c.end_done-finished.result.ended) stands period_is (c.end_done-finished.ensures.did setting is) unwaited

pub give_record-requires : goal.give_record-requires
give_record-requires c = let words = c.end_done-finished.ensures.record in let live = c.requires.live in omega (arith, words, live)

pub returns-clause-pool : goal.returns-clause-pool
returns-clause-pool c = c.give_record.ensures ∙ ap (λ n. with_given c.args.pool.now n) c.end_done-finished.ensures.record
