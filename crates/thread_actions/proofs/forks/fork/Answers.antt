use Rattle.thread_frames.specs.Shown.{thread_shown}
use Rattle.thread_actions.proofs.forks.fork.Goals as goal

pub returns-in-Ok-clause-acts : goal.returns-in-Ok-clause-acts
returns-in-Ok-clause-acts c setting k is items waiting results stands period period_is fits =
    c.put_both_back.ensures.forks items thread_shown waiting results k _ period (thread_shown c.args.top) is.place stands period_is
    (c.in-Ok.ensures.did setting k is period (c.next_id-id.ensures period period_is) fits)

pub returns-in-Ok-clause-back : goal.returns-in-Ok-clause-back
returns-in-Ok-clause-back c = (c.fork_done.new.top, (c.in-Ok.forked.child, c.put_both_back.ensures.deques, c.in-Ok.ensures.point, c.in-Ok.ensures.child))
