use Rattle.thread_frames.specs.Shown.{thread_shown}
use Rattle.thread_actions.proofs.acts.alloc.Goals as goal

pub returns-in-Ok-clause-acts : goal.returns-in-Ok-clause-acts
returns-in-Ok-clause-acts c setting k is items waiting results stands period period_is given =
    c.put_back.ensures.alone items thread_shown waiting results k _ period (thread_shown c.args.top) is.place stands period_is (c.in-Ok.ensures.did c.args.charge setting k is period given)

pub returns-in-Ok-clause-back : goal.returns-in-Ok-clause-back
returns-in-Ok-clause-back c = (c.alloc_done.new.top, c.put_back.ensures.deques, c.in-Ok.ensures.point)
