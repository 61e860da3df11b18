use Rattle.worker_entry.proofs.Left.{idle_leaves}
use Rattle.worker_entry.proofs.hall.Hall.leave.Goals as goal

pub returns-in-None-clause-seat : goal.returns-in-None-clause-seat
returns-in-None-clause-seat c = idle_leaves c.args.self.now c.args.seat c.args.into.now c.leave_idle.new.into c.leave_idle.result c.in-None.is c.leave_idle.ensures.seat
