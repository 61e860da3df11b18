use Rattle.thread_stack.proofs.Lists.{list_frame}
use Rattle.thread_stack.proofs.reading.frame_from.Goals as goal
use Rattle.std.proofs.Common.{rules}

pub returns-then-next-numbers-clause-frames : goal.returns-then-next-numbers-clause-frames
returns-then-next-numbers-clause-frames c =
    λ p gs b xs fs statements frames. list_frame p _ gs c.args.list c.args.next b xs fs (search rules) statements frames
