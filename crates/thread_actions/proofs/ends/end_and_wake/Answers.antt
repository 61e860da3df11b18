use Rattle.std.proofs.Common.{refl, ap, ◌∙◌, arith}
use Rattle.block_arena.specs.Region.{with_given}
use Rattle.thread_frames.specs.Shown.{thread_shown, result_shown}
use Rattle.thread_actions.proofs.ends.end_and_wake.Goals as goal

pub returns-clause-acts : goal.returns-clause-acts
returns-clause-acts c setting k is front back results newest older stands period period_is children newest_is =
    c.end_and_wake.ensures.ends thread_shown _ front back results k _ period (thread_shown c.args.top.now) is.place (result_shown c.end_done-finished.result.ended) newest older stands period_is (c.end_done-finished.ensures.did setting is) refl children newest_is

pub give_record-requires : goal.give_record-requires
give_record-requires c = let words = c.end_done-finished.ensures.record in let live = c.requires.live in omega (arith, words, live)

pub returns-clause-pool : goal.returns-clause-pool
returns-clause-pool c = c.give_record.ensures ∙ ap (λ n. with_given c.args.pool.now n) c.end_done-finished.ensures.record
