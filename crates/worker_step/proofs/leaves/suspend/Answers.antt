use Rattle.std.proofs.Common.{refl}
use Rattle.scheduler_state.specs.declared.scheduler.Scheduler.{Scheduler}
use Rattle.worker_step.proofs.Leaving.{leaves_list}
use Rattle.worker_step.proofs.leaves.suspend.Goals as goal

pub returns-clause-leaves : goal.returns-clause-leaves
returns-clause-leaves c =
    let before : Scheduler = c.args.scheduler.now in
    leaves_list c.args.worker c.args.deque c.args.top before (record before { list = c.suspend.new.list; table = c.suspend.new.table; waiting = c.put.new.self }) refl refl refl refl
    c.suspend.ensures.seats c.args.child c.put.ensures.entries c.suspend.ensures.suspends c.suspend.ensures.deques c.requires.stands
