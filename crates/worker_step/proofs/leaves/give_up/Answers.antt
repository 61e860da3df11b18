use Rattle.std.proofs.Common.{refl}
use Rattle.scheduler_state.specs.declared.scheduler.Scheduler.{Scheduler}
use Rattle.worker_step.proofs.Leaving.{leaves_deque}
use Rattle.worker_step.proofs.leaves.give_up.Goals as goal

pub returns-clause-leaves : goal.returns-clause-leaves
returns-clause-leaves c =
    let before : Scheduler = c.args.scheduler.now in
    leaves_deque c.args.worker c.args.deque c.args.top before (record before { list = c.give_up.new.list; table = c.give_up.new.table }) refl refl refl refl c.give_up.ensures.seats refl
    c.give_up.ensures.gives_up c.give_up.ensures.deques c.requires.stands.0 c.requires.stands.1
