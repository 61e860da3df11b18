use Rattle.std.proofs.Common.{Err, subst}
use Rattle.worker_entry.specs.Leaving.{LeavesHall}
use Rattle.hall_threads.proofs.leaving.leave_into.Goals as goal

pub returns-in-Err-default-OutOfMemory-clause-short : goal.returns-in-Err-default-OutOfMemory-clause-short
returns-in-Err-default-OutOfMemory-clause-short g c =
    let left = subst (λ why. LeavesHall c.args.hall.now c.tries.leaving c.tries.into c.leave.new.into (Err (c.in-Err-default-OutOfMemory.field-0-0, why)))
    c.in-Err-default-OutOfMemory.field-0-1-is c.in-Err-default-OutOfMemory.ensures.seat in
    (c.tries.leaving, c.in-Err-default-OutOfMemory.field-0-0, c.tries.invariant.2, left.1)
