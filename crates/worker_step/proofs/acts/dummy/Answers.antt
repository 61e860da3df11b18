use Rattle.std.proofs.Common.{refl}
use Rattle.std.specs.Prelude.{false}
use Rattle.thread_frames.specs.declared.next.Next.TheVariants.{Dummy}
use Rattle.thread_actions.specs.Acts.{Always}
use Rattle.scheduler_state.specs.declared.scheduler.Scheduler.{Scheduler}
use Rattle.worker_step.proofs.Acting.{performs_of, unowned_acted, no_change}
use Rattle.worker_step.proofs.acts.dummy.Goals as goal

pub returns : goal.returns
returns c =
    let before : Scheduler = c.args.scheduler.now in
    let after : Scheduler = record before { list = c.dummy.new.list; table = c.dummy.new.table } in
    performs_of Dummy Always c.args.worker c.args.deque c.args.top before after
    (unowned_acted Dummy Always c.args.worker c.args.deque c.args.top before after c.dummy.ensures.acts
    (record { waiting = refl; results = refl }) c.dummy.ensures.back c.dummy.ensures.seats)
    0 (λ w told. told) (no_change before.pool.live) false refl refl refl
    c.dummy.ensures.seats.workers refl (c.dummy.ensures.back.1 c.requires.can.stands.0 c.requires.can.stands.1).most (c.dummy.ensures.back.1 c.requires.can.stands.0 c.requires.can.stands.1).spare
