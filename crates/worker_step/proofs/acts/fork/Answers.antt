use Rattle.std.proofs.Common.{refl, ap, ◌∙◌}
use Rattle.std.specs.Prelude.{true, pos}
use Rattle.depth_first_list.specs.Actions.{record_words}
use Rattle.thread_frames.specs.declared.next.Next.TheVariants.{Fork}
use Rattle.thread_actions.specs.Acts.{ForkFits}
use Rattle.scheduler_state.specs.declared.scheduler.Scheduler.{Scheduler}
use Rattle.worker_step.proofs.Acting.{performs_of, forked_acted, taken_change}
use Rattle.worker_step.proofs.acts.fork.Goals as goal

pub returns : goal.returns
returns c =
    let before : Scheduler = c.args.scheduler.now in
    let after : Scheduler = record before { list = c.fork.new.list; table = c.fork.new.table; pool = c.fork.new.pool; place = c.take.new.self } in
    performs_of Fork ForkFits c.args.worker c.args.deque c.args.top before after
    (forked_acted Fork ForkFits c.args.worker c.args.deque c.args.top before after c.in-Ok.ensures.acts
    (record { waiting = refl; results = refl }) c.in-Ok.ensures.back c.in-Ok.ensures.seats)
    record_words (λ w told. told)
    (ap (λ r. pos r.live) c.in-Ok.ensures.pool ∙ taken_change before.pool.live record_words)
    true refl refl refl
    c.in-Ok.ensures.seats.workers (ap (λ r. r.capacity) c.in-Ok.ensures.pool) (c.in-Ok.ensures.back.1.1 c.requires.can.stands.0 c.requires.can.stands.1).most (c.in-Ok.ensures.back.1.1 c.requires.can.stands.0 c.requires.can.stands.1).spare
