use Rattle.std.proofs.Common.{refl, ap, ◌∙◌}
use Rattle.std.specs.Prelude.{true, pos}
use Rattle.thread_frames.specs.declared.next.Next.TheVariants.{Fault}
use Rattle.thread_frames.specs.Views.{held_by}
use Rattle.thread_actions.specs.Acts.{Always}
use Rattle.scheduler_state.specs.declared.scheduler.Scheduler.{Scheduler}
use Rattle.worker_step.proofs.Acting.{performs_of, back_acted, given_change}
use Rattle.worker_step.proofs.acts.fault.Goals as goal

pub returns : goal.returns
returns c =
    let before : Scheduler = c.args.scheduler.now in
    let after : Scheduler = record before { list = c.fault.new.list; table = c.fault.new.table; pool = c.fault.new.pool } in
    performs_of (Fault c.args.at) Always c.args.worker c.args.deque c.args.top before after
    (back_acted (Fault c.args.at) Always c.args.worker c.args.deque c.args.top before after (c.fault.ensures.acts c.args.at)
    (record { waiting = refl; results = refl }) c.fault.ensures.back c.fault.ensures.seats)
    (held_by c.args.top) (λ w told. told)
    (ap (λ r. pos r.live) c.fault.ensures.pool ∙ given_change before.pool.live (held_by c.args.top) c.requires.may)
    true refl refl refl
    c.fault.ensures.seats.workers (ap (λ r. r.capacity) c.fault.ensures.pool) (c.fault.ensures.back.1 c.requires.can.stands.0 c.requires.can.stands.1).most (c.fault.ensures.back.1 c.requires.can.stands.0 c.requires.can.stands.1).spare
