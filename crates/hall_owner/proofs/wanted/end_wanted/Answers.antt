use Rattle.hall_owner.proofs.Deciding.{ends_above, with_pool}
use Rattle.hall_owner.proofs.Ending.{some_below}
use Rattle.hall_owner.proofs.wanted.end_wanted.Goals as goal
use Rattle.thread_frames.specs.declared.next.Next.TheVariants as nexts

pub returns-then-len-gt0 : goal.returns-then-len-gt0
returns-then-len-gt0 c key seat deque ready r is = with_pool key seat deque c.args.at.now ready nexts.End r c.args.charge is
    (ends_above key seat deque c.args.at.now ready r (some_below c.len.result c.args.at.now.lane.items c.if-len-gt0.true c.len.ensures))
