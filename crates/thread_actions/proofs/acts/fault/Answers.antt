use Rattle.thread_frames.specs.Shown.{thread_shown}
use Rattle.thread_actions.proofs.acts.fault.Goals as goal

pub returns-clause-acts : goal.returns-clause-acts
returns-clause-acts c fault setting k is items waiting results stands period period_is given =
    c.put_back.ensures.alone items thread_shown waiting results k _ period (thread_shown c.args.top) is.place stands period_is (c.fault_done-name.ensures.did fault setting k is period given)

pub returns-clause-back : goal.returns-clause-back
returns-clause-back c = (c.fault_done-name.new.top, c.put_back.ensures.deques, c.fault_done-name.ensures.point)
